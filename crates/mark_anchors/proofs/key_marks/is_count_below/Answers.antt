use Rattle.std.proofs.Common.{◌≡◌, ◌∙◌, ◌-◌, ◌<◌, ◌≤◌, ◌⊎◌, inl, inr, ℕ, List, length, get_or, sym, arith}
use Rattle.std.proofs.lemmas.Bool.{leb-true, ltb-true}
use Rattle.mark_anchors.proofs.Nearby.{places_below}
use Rattle.mark_anchors.proofs.key_marks.is_count_below.Goals as goal
use Rattle.mark_anchors.proofs.key_marks.is_count_below.Goals.{then-count-places+then-count-eq0, then-count-places+else-count-eq0, else-count-places}

pub returns-then-count-places-2-clause-below : goal.returns-then-count-places-2-clause-below
returns-then-count-places-2-clause-below c =
    let places : List ℕ = c.args.places.now in
    let count : ℕ = c.args.count in
    let within : count ≤ length places = omega arith in
    let before : (count ≡ 0) ⊎ (get_or places (count - 1) 0 < c.args.place) =
    elim c.if-count-places.branch [
      | then-count-places+then-count-eq0 w ↦ let none = w.if-count-eq0.true in inl (omega arith)
      | then-count-places+else-count-eq0 w ↦ inr (ltb-true _ _ (sym w.value-is ∙ c.if-places-count.true))
      | else-count-places w ↦ absurd (let past = w.if-count-places.false in omega arith)
    ] in
    λ told. places_below places c.requires c.args.place count within before (inl (omega arith))

pub returns-else-count-places-2-clause-below : goal.returns-else-count-places-2-clause-below
returns-else-count-places-2-clause-below c =
    let places : List ℕ = c.args.places.now in
    let count : ℕ = c.args.count in
    let within : count ≤ length places = omega arith in
    let before : (count ≡ 0) ⊎ (get_or places (count - 1) 0 < c.args.place) =
    elim c.if-count-places.branch [
      | then-count-places+then-count-eq0 w ↦ let none = w.if-count-eq0.true in inl (omega arith)
      | then-count-places+else-count-eq0 w ↦ inr (ltb-true _ _ (sym w.value-is ∙ c.if-places-count.true))
      | else-count-places w ↦ absurd (let past = w.if-count-places.false in omega arith)
    ] in
    λ told. places_below places c.requires c.args.place count within before (inr (leb-true c.args.place (get_or places count 0) told))
