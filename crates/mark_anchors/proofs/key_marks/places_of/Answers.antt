use Rattle.std.proofs.Common.{◌≡◌, ◌<◌, ◌∷◌, ◌++◌, [], ℕ, List, length, arith, inl, inr, refl, ⊎_elim, subst, sym, Some}
use Rattle.std.specs.List.{slice_get, Contains}
use Rattle.std.proofs.lemmas.List.Elements.{Contains-append_left, Contains-push, Contains-push_cases}
use Rattle.std.proofs.lemmas.Option.{slice_get_within}
use Rattle.mark_anchors.specs.KeyMarks.{IsEndOf}
use Rattle.mark_anchors.specs.declared.placed.PlacedMark.{PlacedMark}
use Rattle.mark_anchors.proofs.Lists.{read_at, contains_at, contains_from, first_or_last}
use Rattle.mark_anchors.proofs.key_marks.places_of.Goals as goal

-- what was there still is, and so is the new place
kept : (old new : List ℕ) (a v : ℕ) → new ≡ old ++ a ∷ [] → Contains old v → Contains new v
kept old new a v pushed held = subst (λ (l : List ℕ). Contains l v) (sym pushed) (Contains-append_left old (a ∷ []) v held)

put : (old new : List ℕ) (a : ℕ) → new ≡ old ++ a ∷ [] → Contains new a
put old new a pushed = subst (λ (l : List ℕ). Contains l a) (sym pushed) (Contains-push old a)

-- and there is no other
others : (marks : List PlacedMark) (old new : List ℕ) (a : ℕ) → new ≡ old ++ a ∷ [] → IsEndOf marks a → ((c : ℕ) → Contains old c → IsEndOf marks c) → (c : ℕ) → Contains new c → IsEndOf marks c
others marks old new a pushed end all c held =
    ⊎_elim
    (λ (before : Contains old c). all c before)
    (λ (same : a ≡ c). subst (IsEndOf marks) same end)
    (Contains-push_cases old a c (subst (λ (l : List ℕ). Contains l c) pushed held))

pub loop-mark-preserved : goal.loop-mark-preserved
loop-mark-preserved c =
    let marks : List PlacedMark = c.args.marks.now in
    let k : ℕ = c.loop-mark.mark-index in
    let mark : PlacedMark = c.mark-item.result in
    let old : List ℕ = c.loop-mark.places.items in
    let new : List ℕ = c.push.new.self.items in
    let pushed : new ≡ old ++ mark.start ∷ [] = c.in_ok-push.ensures.items in
    let read : slice_get marks k ≡ Some mark = read_at marks k mark c.mark-item.is c.loop-mark-test.true in
    record {
      there =
          λ i m less at.
          ⊎_elim
          (λ (before : i < k). kept old new mark.start m.start pushed (c.loop-mark.invariant.there i m before at))
          (λ (last : (i ≡ k) × (mark ≡ m)). subst (λ (z : PlacedMark). Contains new z.start) last.1 (put old new mark.start pushed))
          (first_or_last marks k i mark m less read at);
      no_other = others marks old new mark.start pushed (mark, contains_from marks k mark read, inl refl) c.loop-mark.invariant.no_other;
    }

pub loop-mark-2-init : goal.loop-mark-2-init
loop-mark-2-init c =
    let marks : List PlacedMark = c.args.marks.now in
    record {
      begins =
          λ m held.
          let i = contains_at marks m held in
          let within : i.0 < length marks = slice_get_within marks i.0 m i.1 in
          c.loop-mark.invariant.there i.0 m (omega arith) i.1;
      there = λ i m less at. absurd (omega arith);
      no_other = c.loop-mark.invariant.no_other;
    }

pub loop-mark-2-preserved : goal.loop-mark-2-preserved
loop-mark-2-preserved c =
    let marks : List PlacedMark = c.args.marks.now in
    let k : ℕ = c.loop-mark-2.mark-index in
    let mark : PlacedMark = c.mark-item-in-loop-mark-2.result in
    let old : List ℕ = c.loop-mark-2.places.items in
    let new : List ℕ = c.push-in-loop-mark-2.new.self.items in
    let pushed : new ≡ old ++ mark.end ∷ [] = c.in_ok-push-2.ensures.items in
    let read : slice_get marks k ≡ Some mark = read_at marks k mark c.mark-item-in-loop-mark-2.is c.loop-mark-2-test.true in
    record {
      begins = λ m held. kept old new mark.end m.start pushed (c.loop-mark-2.invariant.begins m held);
      there =
          λ i m less at.
          ⊎_elim
          (λ (before : i < k). kept old new mark.end m.end pushed (c.loop-mark-2.invariant.there i m before at))
          (λ (last : (i ≡ k) × (mark ≡ m)). subst (λ (z : PlacedMark). Contains new z.end) last.1 (put old new mark.end pushed))
          (first_or_last marks k i mark m less read at);
      no_other = others marks old new mark.end pushed (mark, contains_from marks k mark read, inr refl) c.loop-mark-2.invariant.no_other;
    }

pub returns-clause-begins : goal.returns-clause-begins
returns-clause-begins c = c.loop-mark-2.invariant.begins

pub returns-clause-ends : goal.returns-clause-ends
returns-clause-ends c =
    λ m held.
    let i = contains_at c.args.marks.now m held in
    let within : i.0 < length c.args.marks.now = slice_get_within c.args.marks.now i.0 m i.1 in
    c.loop-mark-2.invariant.there i.0 m (omega arith) i.1

pub returns-clause-no_other : goal.returns-clause-no_other
returns-clause-no_other c = c.loop-mark-2.invariant.no_other
