-- One operation more is placed, or is of another key.
use Rattle.std.proofs.Common.{◌≡◌, ℕ, ◌+◌, ◌<◌, List, [], ◌∷◌, ◌++◌, Some, length, sym, ap, refl, ◌∙◌, subst, arith, ⊎_elim}
use Rattle.std.specs.List.{slice_get}
use Rattle.std.proofs.lemmas.List.{length_push}
use Rattle.std.proofs.lemmas.Option.{slice_get_within, none-some, same_Some}
use Rattle.change_ops.specs.declared.attribute.Key.{Key}
use Rattle.change_ops.specs.declared.operation.Op.{Op}
use Rattle.change_ops.specs.declared.operation.Op.TheVariants.{Insert, Remove, AddMark, RemoveMark, Revive}
use Rattle.char_sequence.specs.declared.sequence.Element.{Element}
use Rattle.mark_anchors.specs.Places.{IsOfKey}
use Rattle.mark_anchors.specs.MarkRange.{IsRangeOf}
use Rattle.mark_anchors.specs.Placed.{IsPlaced, AreFirstMarks, AreAllPlaced, AreFirstPlaced, ArePlaced}
use Rattle.mark_anchors.specs.declared.mark_range.MarkRange.{MarkRange}
use Rattle.mark_anchors.specs.declared.placed.PlacedMark.{PlacedMark}
use Rattle.std.specs.Result.{IfOk}
use Rattle.std.specs.declared.result.Result.{Result}
use Rattle.std.specs.declared.result.Result.TheVariants.{Ok, Err}
use Rattle.std.specs.List.Sorted.{IsPermutation}
use Rattle.std.proofs.lemmas.List.Sorted.{Contains-permutation, IsPermutation-sym}
use Rattle.mark_anchors.proofs.Lists.{contains_at, contains_from, item_at, pushed_at, pushed_cases, pushed_here, pushed_still, first_or_last}

pub placed_more : (es : List Element) (operations : List Op) (key : Key) (k : ℕ) (o : Op) (marks : List PlacedMark) (p : PlacedMark) → slice_get operations k ≡ Some o → IsPlaced es key o p → p.index ≡ k → AreFirstPlaced es operations key k marks → AreFirstPlaced es operations key (k + 1) (marks ++ p ∷ [])
placed_more es operations key k o marks p at is index first = record {
  placed =
      λ i q g.
      ⊎_elim
      (λ (old : slice_get marks i ≡ Some q). first.placed i q old)
      (λ (new : p ≡ q). (
        o,
        ap (λ z. slice_get operations z.index) (sym new) ∙ ap (slice_get operations) index ∙ at,
        subst (λ z. IsPlaced es key o z) new is,
      ))
      (pushed_cases marks p i q g);
  listed =
      λ j x l g of_key.
      ⊎_elim
      (λ (less : j < k). let r = first.listed j x less g of_key in (r.0, (r.1.0, pushed_still marks p r.0 r.1.0 r.1.1, r.1.2)))
      (λ (last : (j ≡ k) × (o ≡ x)). (length marks, (p, pushed_here marks p, index ∙ sym last.0)))
      (first_or_last operations k j o x l at g);
}

pub placed_skipped : (es : List Element) (operations : List Op) (key : Key) (k : ℕ) (o : Op) (marks : List PlacedMark) → slice_get operations k ≡ Some o → (IsOfKey key o → ⊥) → AreFirstPlaced es operations key k marks → AreFirstPlaced es operations key (k + 1) marks
placed_skipped es operations key k o marks at not first = record {
  placed = first.placed;
  listed =
      λ j x l g of_key.
      ⊎_elim
      (λ (less : j < k). first.listed j x less g of_key)
      (λ (last : (j ≡ k) × (o ≡ x)). absurd (not (subst (IsOfKey key) (sym last.1) of_key)))
      (first_or_last operations k j o x l at g);
}

-- the order in which the marks stand doesn't matter
pub placed_permuted : (es : List Element) (operations : List Op) (key : Key) (k : ℕ) (xs ys : List PlacedMark) → IsPermutation xs ys → AreFirstPlaced es operations key k xs → AreFirstPlaced es operations key k ys
placed_permuted es operations key k xs ys permuted first = record {
  placed =
      λ i p g.
      let j = contains_at xs p (Contains-permutation ys xs p (IsPermutation-sym xs ys permuted) (contains_from ys i p g)) in
      first.placed j.0 p j.1;
  listed =
      λ j o less g of_key.
      let r = first.listed j o less g of_key in
      let i = contains_at ys r.1.0 (Contains-permutation xs ys r.1.0 permuted (contains_from xs r.0 r.1.0 r.1.1)) in
      (i.0, (r.1.0, i.1, r.1.2));
}

-- ---- all marks, and those of one key
pub one_key : (key other : Key) (o : Op) → IsOfKey key o → IsOfKey other o → key ≡ other
one_key key other (Insert id parent character) is also = absurd is
one_key key other (Remove id target) is also = absurd is
one_key key other (AddMark id attribute start end) is also = sym is ∙ also
one_key key other (RemoveMark id k start end) is also = sym is ∙ also
one_key key other (Revive id removal) is also = absurd is

pub key_from_range : (o : Op) (r : MarkRange) → IsRangeOf o r → IsOfKey r.key o
key_from_range (Insert id parent character) r is = absurd is
key_from_range (Remove id target) r is = absurd is
key_from_range (AddMark id attribute start end) r is = is.0
key_from_range (RemoveMark id key start end) r is = is.0
key_from_range (Revive id removal) r is = absurd is

pub marks_none : (es : List Element) (operations : List Op) → AreFirstMarks es operations 0 []
marks_none es operations = record { sized = refl; placed = λ i p g. absurd (none-some p g) }

pub no_marks : (es : List Element) (operations : List Op) (marks : List PlacedMark) → length operations ≡ 0 → marks ≡ [] → AreFirstMarks es operations (length operations) marks
no_marks es operations marks empty none = subst (λ (p : ℕ × List PlacedMark). AreFirstMarks es operations p.0 p.1) (λ i. (sym empty i, sym none i)) (marks_none es operations)

pub marks_more : (es : List Element) (operations : List Op) (k : ℕ) (o : Op) (marks : List PlacedMark) (p : PlacedMark) → slice_get operations k ≡ Some o → IsPlaced es p.key o p → p.index ≡ k → AreFirstMarks es operations k marks → AreFirstMarks es operations (k + 1) (marks ++ p ∷ [])
marks_more es operations k o marks p at is index first =
    let size : length marks ≡ k = first.sized in
    record {
      sized = rw length_push (omega arith);
      placed =
          λ i q g.
          ⊎_elim
          (λ (old : slice_get marks i ≡ Some q). first.placed i q old)
          (λ (new : (i ≡ length marks) × (p ≡ q)).
          let end : i ≡ k = new.0 ∙ size in (
            ap (λ (z : PlacedMark). z.index) (sym new.1) ∙ index ∙ sym end,
            (o, ap (slice_get operations) end ∙ at, subst (λ (z : PlacedMark). IsPlaced es z.key o z) new.1 is),
          ))
          (pushed_at marks p i q g);
    }

pub placed_none : (es : List Element) (operations : List Op) (key : Key) → AreFirstPlaced es operations key 0 []
placed_none es operations key = record { placed = λ i p g. absurd (none-some p g); listed = λ j o less g of_key. absurd (omega arith) }

module _ (es : List Element) (operations : List Op) (all : List PlacedMark) (are : AreAllPlaced es operations all) where
  -- the next of all marks is of the key, or it isn't
  pub key_more : (key : Key) (k : ℕ) (mark : PlacedMark) (found : List PlacedMark) → slice_get all k ≡ Some mark → mark.key ≡ key → AreFirstPlaced es operations key k found → AreFirstPlaced es operations key (k + 1) (found ++ mark ∷ [])
  key_more key k mark found at is first =
      let p = are.placed k mark at in
      placed_more es operations key k p.1.0 found mark p.1.1 (subst (λ z. IsPlaced es z p.1.0 mark) is p.1.2) p.0 first

  pub key_skipped : (key : Key) (k : ℕ) (mark : PlacedMark) (found : List PlacedMark) → slice_get all k ≡ Some mark → (mark.key ≡ key → ⊥) → AreFirstPlaced es operations key k found → AreFirstPlaced es operations key (k + 1) found
  key_skipped key k mark found at not first =
      let p = are.placed k mark at in
      placed_skipped es operations key k p.1.0 found p.1.1 (λ of_key. not (one_key mark.key key p.1.0 p.1.2.of_key of_key)) first

  -- after the last
  pub key_all : (key : Key) (k : ℕ) (found : List PlacedMark) → k ≡ length all → AreFirstPlaced es operations key k found → ArePlaced es operations key found
  key_all key k found end first = subst (λ n. AreFirstPlaced es operations key n found) (end ∙ are.sized) first

  -- each operation has its mark
  pub mark_at : (j : ℕ) (o : Op) → slice_get operations j ≡ Some o → (p : PlacedMark) × (slice_get all j ≡ Some p) × IsPlaced es p.key o p
  mark_at j o at =
      let within : j < length operations = slice_get_within operations j o at in
      let sized : length all ≡ length operations = are.sized in
      let r = item_at all j (omega arith) in
      let q = are.placed j r.0 r.1 in
      (r.0, r.1, subst (λ z. IsPlaced es r.0.key z r.0) (same_Some q.1.0 o (sym q.1.1 ∙ at)) q.1.2)

pub placed_result : {E : Type 0} (all : List PlacedMark) (key : Key) (xs : List PlacedMark) (result : Result (List PlacedMark) E) → ((es : List Element) (operations : List Op) → AreAllPlaced es operations all → ArePlaced es operations key xs) → IfOk result (λ ys. IsPermutation xs ys) → IfOk result (λ ys. (es : List Element) (operations : List Op) → AreAllPlaced es operations all → ArePlaced es operations key ys)
placed_result all key xs (Ok ys) placed permuted = λ es operations are. placed_permuted es operations key (length operations) xs ys permuted (placed es operations are)
placed_result all key xs (Err e) placed permuted = tt
