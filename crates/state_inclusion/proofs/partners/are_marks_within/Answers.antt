use Rattle.std.proofs.Common.{◌≡◌, ◌<◌, ℕ, true, false, refl, below_more, arith, rules}
use Rattle.std.specs.Bool.{IsTrue}
use Rattle.tracked_state.specs.Tracked.{tracked_of}
use Rattle.state_inclusion.specs.Partners.{holder_at, mark_at, IsPairWithin}
use Rattle.state_inclusion.proofs.partners.are_marks_within.Goals as goal

pub loop-i-preserved : goal.loop-i-preserved
loop-i-preserved c =
    let a = tracked_of c.args.first.now in
    let b = tracked_of c.args.second.now in
    let yes : IsTrue c.is_place_within.result = search rules in
    λ i j h less.
    below_more
    (λ (k : ℕ). (j : ℕ) → j < k → IsPairWithin (holder_at a j) (holder_at a k) (mark_at b j) (mark_at b k)) c.loop-i.i
    (λ k inside j l. c.loop-i.invariant k j inside l) (c.is_place_within.ensures.0 yes) i h j less

pub returns-then-not-is_place_within : goal.returns-then-not-is_place_within
returns-then-not-is_place_within c =
    let no : c.is_place_within.result ≡ false = search rules in
    let within : c.loop-i.i < 75 = omega (arith, c.loop-i-test.true) in (
      λ t. absurd (cc t),
      λ all. let yes = c.is_place_within.ensures.1 (λ j less. all c.loop-i.i j within less) in absurd (cc (yes, no)),
    )

pub returns : goal.returns
returns c = (λ t i j h less. c.loop-i.invariant i j (omega (arith, c.loop-i-test.false)) less, λ all. refl)
