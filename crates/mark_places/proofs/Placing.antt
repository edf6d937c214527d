-- One mark more with its places, and places that are shifted.
use Rattle.std.proofs.Common.{◌≡◌, ℕ, suc, ◌<◌, ◌≤◌, List, [], ◌∷◌, ◌++◌, Some, length, refl, sym, ap, subst, ◌∙◌, arith, ⊎_elim}
use Rattle.std.specs.List.{slice_get, Contains}
use Rattle.std.specs.List.Sorted.{IsPermutation}
use Rattle.std.proofs.lemmas.Bool.{cases_lt}
use Rattle.std.proofs.lemmas.List.{length_push}
use Rattle.std.proofs.lemmas.List.Sorted.{Contains-permutation, IsPermutation-sym, length_permutation}
use Rattle.std.proofs.lemmas.Option.{same_Some, slice_get_within}
use Rattle.change_ops.specs.declared.operation.Op.{Op}
use Rattle.change_ops.specs.declared.operation.Op.TheVariants.{Insert, Remove, AddMark, RemoveMark, Revive}
use Rattle.char_sequence.specs.declared.sequence.Element.{Element}
use Rattle.mark_anchors.specs.Places.{IsOfKey, Lies}
use Rattle.mark_anchors.proofs.Lists.{contains_at, contains_from, item_at, pushed_here, pushed_still}
use Rattle.mark_anchors.proofs.Uniform.{boundary_within}
use Rattle.mark_places.specs.Places.{IsMarkPlace, AreMarkPlaces}
use Rattle.mark_places.specs.Shifted.{IsShifted, IsMarkShifted, AreShifted}
use Rattle.mark_places.specs.MarkPlace.{MarkPlace}
use Rattle.mark_places.proofs.Boundaries.{lies_shifted}
use Rattle.mark_places.proofs.Raising.{here, there, cons_cases}

-- ---- one more, wherever it is put
pub places_more : (es : List Element) (operations : List Op) (o : Op) (places later : List MarkPlace) (p : MarkPlace) → IsMarkPlace es o p → p.mark.index ≡ length places → IsPermutation (p ∷ places) later
    → AreMarkPlaces es operations places → AreMarkPlaces es (operations ++ o ∷ []) later
places_more es operations o places later p is at same are =
    let size : length places ≡ length operations = are.sized in
    let more : length later ≡ suc (length places) = length_permutation (p ∷ places) later same in
    record {
      sized = omega (arith, more, size, length_push operations o);
      each =
          λ q held.
          ⊎_elim
          (λ (new : p ≡ q).
          subst (λ (z : MarkPlace). (x : Op) × (slice_get (operations ++ o ∷ []) z.mark.index ≡ Some x) × IsMarkPlace es x z) new
          (o, ap (slice_get (operations ++ o ∷ [])) (at ∙ size) ∙ pushed_here operations o, is))
          (λ (old : Contains places q).
          let r = are.each q old in
          (r.0, pushed_still operations o q.mark.index r.0 r.1, r.2))
          (cons_cases p places q (Contains-permutation later (p ∷ places) q (IsPermutation-sym (p ∷ places) later same) held));
      listed =
          λ i less.
          ⊎_elim
          (λ (old : i < length operations).
          let r = are.listed i old in
          (r.0, Contains-permutation (p ∷ places) later r.0 same (there p places r.0 r.1), r.2))
          (λ (new : length operations ≤ i).
          let last : p.mark.index ≡ i = omega (arith, at, size, length_push operations o) in
          (p, Contains-permutation (p ∷ places) later p same (here p places), last))
          (cases_lt i (length operations));
    }

-- ---- places that are shifted
mark_shifted : (front run back : List Element) (o : Op) (p q : MarkPlace) → IsMarkPlace (front ++ back) o p → IsMarkShifted (length front) (length run) p q → IsMarkPlace (front ++ (run ++ back)) o q
mark_shifted front run back o p q is moved = record {
  placed = record {
    of_key = subst (λ k. IsOfKey k o) (sym moved.key) is.placed.of_key;
    id = moved.id ∙ is.placed.id;
    lies =
        lies_shifted front run back o p.mark.start p.mark.end q.mark.start q.mark.end is.placed.lies
        (λ anchor begins. subst (λ w. IsShifted (length front) (length run) w p.mark.start q.mark.start) (is.start anchor begins) moved.start)
        (λ anchor ends. subst (λ w. IsShifted (length front) (length run) w p.mark.end q.mark.end) (is.end anchor ends) moved.end);
  };
  start = λ anchor begins. moved.start_same ∙ is.start anchor begins;
  end = λ anchor ends. moved.end_same ∙ is.end anchor ends;
}

pub places_shifted : (front run back : List Element) (operations : List Op) (old new : List MarkPlace) → AreShifted (length front) (length run) old new → AreMarkPlaces (front ++ back) operations old → AreMarkPlaces (front ++ (run ++ back)) operations new
places_shifted front run back operations old new all are =
    let size : length new ≡ length old = all.sized in
    record {
      sized = size ∙ are.sized;
      each =
          λ q held.
          let i = contains_at new q held in
          let within : i.0 < length new = slice_get_within new i.0 q i.1 in
          let p = item_at old i.0 (omega arith) in
          let moved = all.shifted i.0 p.0 q p.1 i.1 in
          let r = are.each p.0 (contains_from old i.0 p.0 p.1) in
          (r.0, ap (slice_get operations) moved.index ∙ r.1, mark_shifted front run back r.0 p.0 q r.2 moved);
      listed =
          λ n less.
          let r = are.listed n less in
          let i = contains_at old r.0 r.1 in
          let within : i.0 < length old = slice_get_within old i.0 r.0 i.1 in
          let q = item_at new i.0 (omega arith) in
          let moved = all.shifted i.0 r.0 q.0 i.1 q.1 in
          (q.0, contains_from new i.0 q.0 q.1, moved.index ∙ r.2);
    }

-- ---- no place is behind the end
lies_within : (es : List Element) (o : Op) (first last : ℕ) → Lies es o first last → (first ≤ length es) × (last ≤ length es)
lies_within es (Insert id parent character) first last lies = absurd lies
lies_within es (Remove id target) first last lies = absurd lies
lies_within es (AddMark id attribute start end) first last lies = (boundary_within es start first lies.0, boundary_within es end last lies.1)
lies_within es (RemoveMark id key start end) first last lies = (boundary_within es start first lies.0, boundary_within es end last lies.1)
lies_within es (Revive id removal) first last lies = absurd lies

pub place_within : (es : List Element) (operations : List Op) (places : List MarkPlace) → AreMarkPlaces es operations places → (p : MarkPlace) → Contains places p → (p.mark.start ≤ length es) × (p.mark.end ≤ length es)
place_within es operations places are p held =
    let r = are.each p held in
    lies_within es r.0 p.mark.start p.mark.end r.2.placed.lies

-- a place behind the end of the text moves none
pub far_shifted : (es : List Element) (operations : List Op) (places : List MarkPlace) (place count : ℕ) → length es < place → AreMarkPlaces es operations places → AreShifted place count places places
far_shifted es operations places place count far are = record {
  sized = refl;
  shifted =
      λ i p q g h.
      let low = place_within es operations places are p (contains_from places i p g) in
      let start = low.0 in
      let end = low.1 in
      subst (IsMarkShifted place count p) (same_Some p q (sym g ∙ h)) (record {
        start = record { behind = λ b. absurd (omega arith); moves = λ at g. absurd (omega arith); stays = λ at g. refl; before = λ b. refl };
        end = record { behind = λ b. absurd (omega arith); moves = λ at g. absurd (omega arith); stays = λ at g. refl; before = λ b. refl };
        index = refl;
        id = refl;
        key = refl;
        start_same = refl;
        end_same = refl;
      });
}
