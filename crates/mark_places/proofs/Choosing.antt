-- The kept marks are chosen ones.
use Rattle.std.proofs.Common.{true, false, map, ◌≡◌, ℕ, ◌<◌, ◌≤◌, List, [], Some, length, get_or, refl, sym, ap, subst, ◌∙◌, arith, ⊎_elim, ◌⊎◌, inl, inr}
use Rattle.std.specs.List.{slice_get, list_any, Contains}
use Rattle.std.proofs.lemmas.Bool.{cases_Bool, false≢true}
use Rattle.std.proofs.lemmas.Option.{same_Some, none-some, slice_get_within}
use Rattle.change_ops.specs.Ids.{Less}
use Rattle.change_ops.specs.Operations.{id_of}
use Rattle.change_ops.specs.declared.operation.Op.{Op}
use Rattle.char_sequence.specs.declared.sequence.Element.{Element}
use Rattle.mark_anchors.specs.Places.{IsOfKey}
use Rattle.mark_anchors.specs.Placed.{AreAllPlaced, IsPlaced}
use Rattle.mark_anchors.specs.declared.placed.PlacedMark.{PlacedMark}
use Rattle.mark_anchors.proofs.Lists.{contains_at, contains_from, item_at, read_at}
use Rattle.mark_places.specs.Places.{AreMarkPlaces}
use Rattle.mark_places.specs.MarkPlace.{MarkPlace}
use Rattle.mark_places.specs.Touching.{touches, touching}
use Rattle.mark_places.specs.declared.range.PlaceRange.{PlaceRange}
use Rattle.mark_places.specs.Floors.{floor_of, AreFloors, IsKept, AreKept, numbered}
use Rattle.mark_places.specs.Chosen.{AreChosen, IsOutside, IsOverruled}
use Rattle.mark_places.specs.declared.floors.Floors.{Floors}
use Rattle.mark_places.proofs.Keeping.{IsBelow, IsBeside, beside, kept_cases, floor_kept}
use Rattle.mark_places.proofs.Filters.{kept_was, is_kept}
use Rattle.mark_places.proofs.Raising.{contains_map, of_map}
use Rattle.mark_places.proofs.Touching.{covered_passes}

-- the mark of each of them, and each of those is one of theirs
mark_held : (places : List MarkPlace) (place : MarkPlace) → Contains places place → Contains (map (λ (p : MarkPlace). p.mark) places) place.mark
mark_held places place held = contains_map (λ (p : MarkPlace). p.mark) places place held

-- what touches is one of them
from_touching : (ranges : List PlaceRange) (places : List MarkPlace) (mark : PlacedMark) → Contains (touching ranges places) mark → (place : MarkPlace) × Contains places place × (place.mark ≡ mark)
from_touching ranges places mark held =
    of_map (λ (p : MarkPlace). p.mark) places mark (kept_was (λ m. list_any (touches m) ranges) (map (λ (p : MarkPlace). p.mark) places) mark held)

-- each of them touches, or covers no place of the range
touching_cases : (ranges : List PlaceRange) (range : PlaceRange) (places : List MarkPlace) (place : MarkPlace) → Contains ranges range → Contains places place
    → Contains (touching ranges places) place.mark ⊎ IsBeside range.low range.high place.mark
touching_cases ranges range places place there held =
    ⊎_elim
    (λ (yes : list_any (touches place.mark) ranges ≡ true). inl (is_kept (λ m. list_any (touches m) ranges) (map (λ (p : MarkPlace). p.mark) places) place.mark yes (mark_held places place held)))
    (λ (no : list_any (touches place.mark) ranges ≡ false). inr (beside place.mark range (λ covers. false≢true (sym no ∙ covered_passes place.mark ranges (range, there, covers)))))
    (cases_Bool (list_any (touches place.mark) ranges))

module _ (es : List Element) (operations : List Op) (places : List MarkPlace) (are : AreMarkPlaces es operations places) (ranges : List PlaceRange) where
  -- each candidate is that of the operation of its index
  candidate_of : (mark : PlacedMark) → Contains (touching ranges places) mark → (o : Op) × (slice_get operations mark.index ≡ Some o) × IsPlaced es mark.key o mark
  candidate_of mark held =
      let from = from_touching ranges places mark held in
      let r = are.each from.0 from.1 in
      subst (λ (m : PlacedMark). (o : Op) × (slice_get operations m.index ≡ Some o) × IsPlaced es m.key o m) from.2 (r.0, r.1, r.2.placed)

  -- and each operation has its place
  place_at : (o : Op) → Contains operations o → (place : MarkPlace) × Contains places place × (slice_get operations place.mark.index ≡ Some o) × IsPlaced es place.mark.key o place.mark
  place_at o held =
      let i = contains_at operations o held in
      let p = are.listed i.0 (slice_get_within operations i.0 o i.1) in
      let r = are.each p.0 p.1 in
      let one : r.0 ≡ o = same_Some r.0 o (sym r.1 ∙ ap (slice_get operations) p.2 ∙ i.1) in
      (p.0, p.1, ap (slice_get operations) p.2 ∙ i.1, subst (λ z. IsPlaced es p.0.mark.key z p.0.mark) one r.2.placed)

  pub candidate_within : (k : ℕ) (mark : PlacedMark) → slice_get (touching ranges places) k ≡ Some mark → mark.index < length operations
  candidate_within k mark at =
      let r = candidate_of mark (contains_from (touching ranges places) k mark at) in
      slice_get_within operations mark.index r.0 r.1

  numbered_placed : (o : Op) (mark p : PlacedMark) (i : ℕ) → p ≡ numbered mark i → IsPlaced es mark.key o mark → IsPlaced es p.key o p
  numbered_placed o mark p i is placed =
      let new : IsPlaced es mark.key o (numbered mark i) = record { of_key = placed.of_key; id = placed.id; lies = placed.lies } in
      subst (λ (z : PlacedMark). IsPlaced es z.key o z) (sym is) new

  module _ (floors : Floors) (done : ℕ) (chosen : List Op) (marks : List PlacedMark) (kept : AreKept (touching ranges places) operations floors done chosen marks) where
    pub kept_placed : AreAllPlaced es chosen marks
    kept_placed = record {
      sized = kept.sized;
      placed =
          λ i p g.
          let h = kept.held i p g in
          let r = candidate_of h.0 h.1 in
          let one : r.0 ≡ h.3.0 = same_Some r.0 h.3.0 (sym r.1 ∙ h.3.1) in (
            ap (λ (z : PlacedMark). z.index) h.2,
            (h.3.0, h.3.2, numbered_placed h.3.0 h.0 p i h.2 (subst (λ z. IsPlaced es h.0.key z h.0) one r.2)),
          );
    }

    kept_from : (o : Op) → Contains chosen o → Contains operations o
    kept_from o c =
        let i = contains_at chosen o c in
        let within : i.0 < length chosen = slice_get_within chosen i.0 o i.1 in
        let size : length marks ≡ length chosen = kept.sized in
        let p = item_at marks i.0 (omega arith) in
        let h = kept.held i.0 p.0 p.1 in
        contains_from operations h.0.index o (h.3.1 ∙ ap Some (same_Some h.3.0 o (sym h.3.2 ∙ i.1)))

    outside : (range : PlaceRange) (mark : PlacedMark) (o : Op) → IsPlaced es mark.key o mark → IsBeside range.low range.high mark → IsOutside es range.low range.high o
    outside range mark o placed beside = record { first = mark.start; last = mark.end; lies = placed.lies; apart = beside.apart }

    module _ (low high : ℕ) (all : length (touching ranges places) ≤ done) (floors_found : AreFloors (touching ranges places) low high floors)
        (range : PlaceRange) (there : Contains ranges range) (inside : (low ≤ range.low) × (range.high ≤ high)) where
      kept_held : (mark : PlacedMark) (o : Op) → Contains (touching ranges places) mark → slice_get operations mark.index ≡ Some o → IsKept floors mark → Contains chosen o
      kept_held mark o held at is =
          let i = contains_at (touching ranges places) mark held in
          let within : i.0 < length (touching ranges places) = slice_get_within (touching ranges places) i.0 mark i.1 in
          kept.listed i.0 mark o (omega arith) i.1 at is

      overruled : (mark : PlacedMark) (o : Op) → IsPlaced es mark.key o mark → IsBelow (floor_of floors mark.key) mark.id → IsOverruled es range.low range.high chosen o
      overruled mark o placed below =
          let f = floors_found.found mark.key below.by below.is in
          let by : PlacedMark = f.0 in
          let r = candidate_of by f.1 in
          let same_key : by.key ≡ mark.key = f.3 in
          let same_id : by.id ≡ below.by = f.4 in
          let whole : floor_of floors by.key ≡ Some by.id = ap (floor_of floors) same_key ∙ below.is ∙ ap Some (sym same_id) in
          let begun : by.start ≤ low = f.2.0 in
          let ongoing : high ≤ by.end = f.2.1 in
          let from : low ≤ range.low = inside.0 in
          let to : range.high ≤ high = inside.1 in
          let b = r.0 in
          record {
            by = b;
            among = kept_held by b f.1 r.1 (floor_kept floors by whole);
            key = mark.key;
            of_key = placed.of_key;
            by_key = subst (λ k. IsOfKey k b) same_key r.2.of_key;
            greater = subst (λ z. Less z (id_of b)) placed.id (subst (Less mark.id) (sym same_id ∙ r.2.id) below.less);
            first = by.start;
            last = by.end;
            lies = r.2.lies;
            covers = (omega arith, omega arith);
          }

      pub kept_chosen : AreChosen es range.low range.high operations chosen
      kept_chosen = record {
        held = kept_from;
        others =
            λ o held.
            let p = place_at o held in
            ⊎_elim
            (λ (touches : Contains (touching ranges places) p.0.mark).
            ⊎_elim
            (λ (is : IsKept floors p.0.mark). inl (kept_held p.0.mark o touches p.2 is))
            (λ (below : IsBelow (floor_of floors p.0.mark.key) p.0.mark.id). inr (inr (overruled p.0.mark o p.3 below)))
            (kept_cases floors p.0.mark))
            (λ (beside : IsBeside range.low range.high p.0.mark). inr (inl (outside range p.0.mark o p.3 beside)))
            (touching_cases ranges range places p.0 there p.1);
      }

pub none_placed : (es : List Element) → AreAllPlaced es [] []
none_placed es = record { sized = refl; placed = λ i p g. absurd (none-some p g) }

pub read_as : (marks items : List PlacedMark) (k : ℕ) (mark : PlacedMark) → items ≡ marks → mark ≡ get_or items k mark → k < length items → slice_get marks k ≡ Some mark
read_as marks items k mark same is within = ap (λ xs. slice_get xs k) (sym same) ∙ read_at items k mark is within
