use Rattle.std.proofs.Common.{ℕ, ◌∷◌, sym, ap, ◌∙◌}
use Rattle.filter_cases.proofs.Quotes.{reading_plain, reading_escape, reading_over, reading_stuck, reading_ends}
use Rattle.filter_cases.proofs.quoted.quoted.Goals as goal

pub returns-in_default : goal.returns-in_default
returns-in_default c = λ text rest q. reading_over _ _ _ c.in_default.ensures.cases c.loop-first.invariant text rest q

pub returns-then-first-eq34 : goal.returns-then-first-eq34
returns-then-first-eq34 c =
    reading_ends _ _ _ _ (c.in-Some.ensures.cases.0 ∙ ap (λ (b : ℕ). b ∷ c.in-Some.behind.now) c.if-first-eq34.true) c.loop-first.invariant

pub returns-in_default-escape : goal.returns-in_default-escape
returns-in_default-escape c = λ text rest q.
    reading_stuck _ _ _ _ (c.in-Some.ensures.cases.0 ∙ ap (λ (b : ℕ). b ∷ c.in-Some.behind.now) c.if-first-eq92.true)
    (sym c.in_default-escape.ensures.byte) c.loop-first.invariant text rest q

pub loop-first-preserved-then-first-eq92 : goal.loop-first-preserved-then-first-eq92
loop-first-preserved-then-first-eq92 c =
    reading_escape _ _ _ _ _ _ c.in-Some-escape.byte (c.in-Some.ensures.cases.0 ∙ ap (λ (b : ℕ). b ∷ c.in-Some.behind.now) c.if-first-eq92.true)
    (sym c.in-Some-escape.ensures.byte) c.in_ok-push.ensures.items c.loop-first.invariant

pub loop-first-preserved : goal.loop-first-preserved
loop-first-preserved c =
    reading_plain _ _ _ _ _ c.in-Some.first.now c.in-Some.ensures.cases.0 c.if-first-eq34.false c.if-first-eq92.false
    c.in_ok-push-2.ensures.items c.loop-first.invariant
