-- Which marks are kept for a window.
use Rattle.std.proofs.Common.{◌≡◌, ℕ, ◌+◌, ◌<◌, ◌≤◌, true, List, [], ◌∷◌, ◌++◌, Option, Some, None, length, refl, sym, ap, subst, ◌∙◌, arith, ⊎_elim, ◌⊎◌, inl, inr}
use Rattle.std.specs.List.{slice_get, Contains}
use Rattle.std.proofs.lemmas.List.{length_push}
use Rattle.std.proofs.lemmas.List.Elements.{Contains-append_left}
use Rattle.std.proofs.lemmas.Bool.{cases_lt}
use Rattle.std.proofs.lemmas.Option.{same_Some, none-some}
use Rattle.change_ops.specs.Ids.{Less}
use Rattle.change_ops.specs.declared.id.OpId.{OpId}
use Rattle.change_ops.specs.declared.attribute.Key.{Key}
use Rattle.change_ops.specs.declared.attribute.Key.TheVariants.{Row, Comment}
use Rattle.change_ops.specs.declared.operation.Op.{Op}
use Rattle.char_sequence.proofs.Ids.{less_irrefl, less_trans, less_cases, lower_floor}
use Rattle.mark_anchors.specs.declared.placed.PlacedMark.{PlacedMark}
use Rattle.mark_anchors.proofs.Lists.{contains_from, first_or_last, pushed_at, pushed_here, pushed_still}
use Rattle.mark_places.specs.PlaceRanges.{CoversSome}
use Rattle.mark_places.specs.declared.range.PlaceRange.{PlaceRange}
use Rattle.mark_places.specs.Floors.{floor_of, has_floor, IsGreaterOf, IsRaised, IsFloored, CoversAll, AreFirstFloors, IsKept, AreKept, numbered}
use Rattle.mark_places.specs.declared.floors.Floors.{Floors}
use Rattle.mark_places.proofs.KeyCases.{key_cases}

-- ---- floors
own_floor : (before after : Option OpId) (id x : OpId) → IsGreaterOf before id after → after ≡ Some x → (before ≡ Some x) ⊎ (id ≡ x)
own_floor None after id x greater is = inr (same_Some id x (sym greater ∙ is))
own_floor (Some found) after id x (inl (same, less)) is = inl (sym same ∙ is)
own_floor (Some found) after id x (inr (same, not)) is = inr (same_Some id x (sym same ∙ is))

-- a floor that is there is of a key that has one
floor_has : (floors : Floors) (key : Key) (x : OpId) → floor_of floors key ≡ Some x → has_floor key ≡ true
floor_has floors (Row row) x is = refl
floor_has floors (Comment number) x is = absurd (none-some x is)

-- what was not above the floor isn't above the greater one, and neither is the id itself
still_floored : (before after : Option OpId) (id other : OpId) → IsGreaterOf before id after → IsFloored before other → IsFloored after other
still_floored None after id other greater was = absurd (none-some was.at was.is)
still_floored (Some found) after id other (inl (same, less)) was = record { at = was.at; is = same ∙ was.is; reaches = was.reaches }
still_floored (Some found) after id other (inr (same, not)) was =
    let one : found ≡ was.at = same_Some found was.at was.is in
    record { at = id; is = same; reaches = lower_floor id found other not (subst (λ z. Less z other → ⊥) (sym one) was.reaches) }

own_floored : (before after : Option OpId) (id : OpId) → IsGreaterOf before id after → IsFloored after id
own_floored None after id greater = record { at = id; is = greater; reaches = less_irrefl id }
own_floored (Some found) after id (inl (same, less)) = record { at = found; is = same; reaches = λ above. less_irrefl id (less_trans id found id less above) }
own_floored (Some found) after id (inr (same, not)) = record { at = id; is = same; reaches = less_irrefl id }

pub floors_none : (places : List PlacedMark) (low high : ℕ) (floors : Floors) → ((key : Key) → floor_of floors key ≡ None) → AreFirstFloors places low high 0 floors
floors_none places low high floors none = record {
  found = λ key id is. absurd (none-some id (sym (none key) ∙ is));
  greatest = λ i place less at covers has. absurd (omega arith);
}

pub floors_raised : (places : List PlacedMark) (low high k : ℕ) (place : PlacedMark) (before after : Floors) → slice_get places k ≡ Some place → CoversAll low high place → IsRaised place.key place.id before after → AreFirstFloors places low high k before → AreFirstFloors places low high (k + 1) after
floors_raised places low high k place before after here covers raised are = record {
  found =
      λ key x is.
      ⊎_elim
      (λ (same : key ≡ place.key).
      let there : floor_of after place.key ≡ Some x = ap (floor_of after) (sym same) ∙ is in
      ⊎_elim
      (λ (was : floor_of before place.key ≡ Some x). are.found key x (ap (floor_of before) same ∙ was))
      (λ (new : place.id ≡ x). (place, contains_from places k place here, covers, sym same, new))
      (own_floor (floor_of before place.key) (floor_of after place.key) place.id x (raised.own (floor_has after place.key x there)) there))
      (λ (other : key ≡ place.key → ⊥). are.found key x (sym (raised.others key other) ∙ is))
      (key_cases key place.key);
  greatest =
      λ i q less at over has.
      ⊎_elim
      (λ (earlier : i < k).
      let was = are.greatest i q earlier at over has in
      ⊎_elim
      (λ (same : q.key ≡ place.key).
      subst (λ z. IsFloored (floor_of after z) q.id) (sym same)
      (still_floored (floor_of before place.key) (floor_of after place.key) place.id q.id
      (raised.own (subst (λ z. has_floor z ≡ true) same has)) (subst (λ z. IsFloored (floor_of before z) q.id) same was)))
      (λ (other : q.key ≡ place.key → ⊥). subst (λ f. IsFloored f q.id) (sym (raised.others q.key other)) was)
      (key_cases q.key place.key))
      (λ (last : (i ≡ k) × (place ≡ q)).
      let own : has_floor place.key ≡ true → IsFloored (floor_of after place.key) place.id =
      λ h. own_floored (floor_of before place.key) (floor_of after place.key) place.id (raised.own h) in
      subst (λ (z : PlacedMark). has_floor z.key ≡ true → IsFloored (floor_of after z.key) z.id) last.1 own has)
      (first_or_last places k i place q less here at);
}

pub floors_skipped : (places : List PlacedMark) (low high k : ℕ) (place : PlacedMark) (floors : Floors) → slice_get places k ≡ Some place → (CoversAll low high place → ⊥) → AreFirstFloors places low high k floors → AreFirstFloors places low high (k + 1) floors
floors_skipped places low high k place floors here not are = record {
  found = are.found;
  greatest =
      λ i q less at over has.
      ⊎_elim
      (λ (earlier : i < k). are.greatest i q earlier at over has)
      (λ (last : (i ≡ k) × (place ≡ q)). absurd (not (subst (CoversAll low high) (sym last.1) over)))
      (first_or_last places k i place q less here at);
}

-- ---- whether a mark is kept
-- the floor is greater than the id
pub record IsBelow (floor : Option OpId) (id : OpId) : Type 0 where
  pub by : OpId
  pub is : floor ≡ Some by
  pub less : Less id by

floor_cases : (floor : Option OpId) (id : OpId) → ((x : OpId) → floor ≡ Some x → Less id x → ⊥) ⊎ IsBelow floor id
floor_cases None id = inl (λ x is. absurd (none-some x is))
floor_cases (Some found) id =
    ⊎_elim
    (λ (less : Less id found). inr (record { by = found; is = refl; less = less }))
    (λ (r : (id ≡ found) ⊎ Less found id). inl (λ x is less.
    let below : Less id found = subst (Less id) (sym (same_Some found x is)) less in
    ⊎_elim
    (λ (same : id ≡ found). less_irrefl found (subst (λ z. Less z found) same below))
    (λ (above : Less found id). less_irrefl id (less_trans id found id below above))
    r))
    (less_cases id found)

-- the mark covers no place of the window
pub record IsBeside (low high : ℕ) (place : PlacedMark) : Type 0 where
  pub apart : (at : ℕ) → low ≤ at → at < high → (at < place.start) ⊎ (place.end ≤ at)

-- a mark that doesn't touch a range covers none of its places
pub beside : (mark : PlacedMark) (range : PlaceRange) → (CoversSome range mark → ⊥) → IsBeside range.low range.high mark
beside mark range none = record {
  apart =
      λ at from to.
      ⊎_elim
      (λ (before : at < mark.start). inl before)
      (λ (begun : mark.start ≤ at).
      ⊎_elim
      (λ (within : at < mark.end). absurd (none (record { before = omega arith; behind = omega arith; some = omega arith })))
      (λ (ended : mark.end ≤ at). inr ended)
      (cases_lt at mark.end))
      (cases_lt at mark.start);
}

pub kept_cases : (floors : Floors) (place : PlacedMark) → IsKept floors place ⊎ IsBelow (floor_of floors place.key) place.id
kept_cases floors place = floor_cases (floor_of floors place.key) place.id

-- a mark whose id is the floor is kept
pub floor_kept : (floors : Floors) (place : PlacedMark) → floor_of floors place.key ≡ Some place.id → IsKept floors place
floor_kept floors place is = λ x at less. less_irrefl place.id (subst (Less place.id) (same_Some x place.id (sym at ∙ is)) less)

-- ---- the kept ones, one after another
module _ (places : List PlacedMark) (operations : List Op) (floors : Floors) where
  pub kept_none : AreKept places operations floors 0 [] []
  kept_none = record { sized = refl; held = λ i p g. absurd (none-some p g); listed = λ i place o less g at kept. absurd (omega arith) }

  pub kept_more : (k : ℕ) (place : PlacedMark) (o : Op) (chosen : List Op) (marks : List PlacedMark) → slice_get places k ≡ Some place → slice_get operations place.index ≡ Some o → AreKept places operations floors k chosen marks → AreKept places operations floors (k + 1) (chosen ++ o ∷ []) (marks ++ numbered place (length chosen) ∷ [])
  kept_more k place o chosen marks here at are =
      let size : length marks ≡ length chosen = are.sized in
      let mark : PlacedMark = numbered place (length chosen) in
      record {
        sized = omega (arith, length_push marks mark, length_push chosen o);
        held =
            λ i p g.
            ⊎_elim
            (λ (old : slice_get marks i ≡ Some p).
            let r = are.held i p old in
            (r.0, r.1, r.2, (r.3.0, r.3.1, pushed_still chosen o i r.3.0 r.3.2)))
            (λ (new : (i ≡ length marks) × (mark ≡ p)).
            let end : length chosen ≡ i = sym (new.0 ∙ size) in (
              place,
              contains_from places k place here,
              sym new.1 ∙ ap (numbered place) end,
              (o, at, ap (slice_get (chosen ++ o ∷ [])) (sym end) ∙ pushed_here chosen o),
            ))
            (pushed_at marks mark i p g);
        listed =
            λ i q x less g h kept.
            ⊎_elim
            (λ (before : i < k). Contains-append_left chosen (o ∷ []) x (are.listed i q x before g h kept))
            (λ (last : (i ≡ k) × (place ≡ q)).
            let one : o ≡ x = same_Some o x (sym at ∙ ap (λ (z : PlacedMark). slice_get operations z.index) last.1 ∙ h) in
            subst (Contains (chosen ++ o ∷ [])) one (contains_from (chosen ++ o ∷ []) (length chosen) o (pushed_here chosen o)))
            (first_or_last places k i place q less here g);
      }

  pub kept_skipped : (k : ℕ) (place : PlacedMark) (chosen : List Op) (marks : List PlacedMark) → slice_get places k ≡ Some place → (IsKept floors place → ⊥) → AreKept places operations floors k chosen marks → AreKept places operations floors (k + 1) chosen marks
  kept_skipped k place chosen marks here not are = record {
    sized = are.sized;
    held = are.held;
    listed =
        λ i q x less g h kept.
        ⊎_elim
        (λ (before : i < k). are.listed i q x before g h kept)
        (λ (last : (i ≡ k) × (place ≡ q)). absurd (not (subst (IsKept floors) (sym last.1) kept)))
        (first_or_last places k i place q less here g);
  }

  pub kept_as : (k : ℕ) (chosen chosen' : List Op) (marks marks' : List PlacedMark) → chosen' ≡ chosen → marks' ≡ marks → AreKept places operations floors k chosen marks → AreKept places operations floors k chosen' marks'
  kept_as k chosen chosen' marks marks' same also are =
      subst (λ c. AreKept places operations floors k c marks') (sym same) (subst (AreKept places operations floors k chosen) (sym also) are)
