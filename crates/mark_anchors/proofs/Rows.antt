-- Lists of marks, one for each key of one value.
use Rattle.std.proofs.Common.{◌≡◌, ℕ, suc, ◌+◌, ◌<◌, List, [], ◌∷◌, ◌++◌, Some, length, set, sym, ap, ◌∙◌, subst, arith, ⊎_elim, length-set}
use Rattle.std.specs.List.{slice_get}
use Rattle.std.specs.List.Sorted.{IsPermutation}
use Rattle.std.specs.declared.vec.Vec.{Vec}
use Rattle.std.proofs.lemmas.Bool.{cases_eq}
use Rattle.std.proofs.lemmas.List.{length_push}
use Rattle.std.proofs.lemmas.Option.{same_Some, none-some, slice_get_within}
use Rattle.change_ops.specs.declared.attribute.Key.TheVariants.{Row}
use Rattle.change_ops.specs.declared.keys.TheConstants.{KEYS}
use Rattle.change_ops.specs.declared.operation.Op.{Op}
use Rattle.char_sequence.proofs.Lists.{slice_get_set_same, slice_get_set_other}
use Rattle.char_sequence.specs.declared.sequence.Element.{Element}
use Rattle.mark_anchors.specs.Placed.{AreAllPlaced, AreFirstByRow, AreFirstPlaced, ArePlaced, AreUnfilled}
use Rattle.mark_anchors.specs.Resolution.{AreByRow}
use Rattle.mark_anchors.specs.declared.placed.PlacedMark.{PlacedMark}
use Rattle.mark_anchors.proofs.Gathering.{key_more, key_skipped, placed_none, placed_permuted}
use Rattle.mark_anchors.proofs.Lists.{pushed_at}

-- none of the lists has a mark
abbrev pub AreBare : {A : Type 0} → List (Vec PlacedMark A) → Type 0
AreBare {A} lists = (row : ℕ) (marks : Vec PlacedMark A) → slice_get lists row ≡ Some marks → marks.items ≡ []

pub bare_more : {A : Type 0} (lists more : List (Vec PlacedMark A)) (new : Vec PlacedMark A) → more ≡ lists ++ new ∷ [] → new.items ≡ [] → AreBare lists → AreBare more
bare_more {A} lists more new pushed none bare row marks at =
    ⊎_elim
    (λ (old : slice_get lists row ≡ Some marks). bare row marks old)
    (λ (last : (row ≡ length lists) × (new ≡ marks)). subst (λ (v : Vec PlacedMark A). v.items ≡ []) last.1 none)
    (pushed_at lists new row marks (subst (λ (l : List (Vec PlacedMark A)). slice_get l row ≡ Some marks) pushed at))

pub by_row_none : {A : Type 0} (es : List Element) (operations : List Op) (lists : List (Vec PlacedMark A)) → AreUnfilled lists → AreFirstByRow es operations 0 lists
by_row_none es operations lists are = record {
  sized = are.sized;
  each = λ row marks at. subst (AreFirstPlaced es operations (Row row) 0) (sym (are.empty row marks at)) (placed_none es operations (Row row));
}

-- ---- the next of all marks is put into the list of its key's row, or it is of a comment
module _ {A : Type 0} (es : List Element) (operations : List Op) (all : List PlacedMark) (are : AreAllPlaced es operations all) (k : ℕ) (mark : PlacedMark) (next : slice_get all k ≡ Some mark) (lists : List (Vec PlacedMark A)) (first : AreFirstByRow es operations k lists) where
  pub by_row_more : (row : ℕ) (old new : Vec PlacedMark A) → mark.key ≡ Row row → slice_get lists row ≡ Some old → new.items ≡ old.items ++ mark ∷ [] → AreFirstByRow es operations (k + 1) (set lists row new)
  by_row_more row old new is at items = record {
    sized = length-set lists row new ∙ first.sized;
    each =
        λ r marks g.
        ⊎_elim
        (λ (same : r ≡ row).
        let within : row < length lists = slice_get_within lists row old at in
        let put : new ≡ marks = same_Some new marks (sym (slice_get_set_same lists row new within) ∙ ap (slice_get (set lists row new)) (sym same) ∙ g) in
        let added : new.items ≡ old.items ++ mark ∷ [] = items in
        subst (AreFirstPlaced es operations (Row r) (k + 1)) (sym added ∙ ap (λ (v : Vec PlacedMark A). v.items) put)
        (key_more es operations all are (Row r) k mark old.items next (is ∙ ap Row (sym same)) (first.each r old (ap (slice_get lists) same ∙ at))))
        (λ (apart : r ≡ row → ⊥).
        key_skipped es operations all are (Row r) k mark marks.items next (λ of_key. apart (let one : Row r ≡ Row row = sym of_key ∙ is in cc))
        (first.each r marks (sym (slice_get_set_other lists row r new apart) ∙ g)))
        (cases_eq r row);
  }

  pub by_row_still : ((row : ℕ) → mark.key ≡ Row row → ⊥) → AreFirstByRow es operations (k + 1) lists
  by_row_still not = record {
    sized = first.sized;
    each = λ row marks at. key_skipped es operations all are (Row row) k mark marks.items next (not row) (first.each row marks at);
  }

-- ---- the first lists are of these rows, and the others are left
pub record AreTaken {A : Type 0} (es : List Element) (operations : List Op) (rows : List (List PlacedMark)) (left : List (Vec PlacedMark A)) : Type 0 where
  pub sized : length rows + length left ≡ KEYS
  pub taken : (row : ℕ) (marks : List PlacedMark) → slice_get rows row ≡ Some marks → ArePlaced es operations (Row row) marks
  pub others : (i : ℕ) (marks : Vec PlacedMark A) → slice_get left i ≡ Some marks → ArePlaced es operations (Row (length rows + i)) marks.items

pub taken_none : {A : Type 0} (es : List Element) (operations : List Op) (rows : List (List PlacedMark)) (left : List (Vec PlacedMark A)) → rows ≡ [] → AreFirstByRow es operations (length operations) left → AreTaken es operations rows left
taken_none {A} es operations rows left none are =
    subst (λ (l : List (List PlacedMark)). AreTaken es operations l left) (sym none)
    (let whole : length left ≡ KEYS = are.sized in
    record {
      sized = omega (arith, whole);
      taken = λ row marks at. absurd (none-some marks at);
      others =
          λ i marks at.
          let same : i ≡ 0 + i = omega arith in
          subst (λ n. ArePlaced es operations (Row n) marks.items) same (are.each i marks at);
    })

pub taken_more : {A : Type 0} (es : List Element) (operations : List Op) (rows more : List (List PlacedMark)) (left rest : List (Vec PlacedMark A)) (list : Vec PlacedMark A) (marks : List PlacedMark) → left ≡ list ∷ rest → more ≡ rows ++ marks ∷ [] → IsPermutation list.items marks → AreTaken es operations rows left → AreTaken es operations more rest
taken_more {A} es operations rows more left rest list marks first items permuted are =
    let sized : length more ≡ length rows + 1 = ap length items ∙ length_push rows marks in
    let parts : length left ≡ suc (length rest) = ap length first in
    let whole : length rows + length left ≡ KEYS = are.sized in
    record {
      sized = omega (arith, sized, parts, whole);
      taken =
          λ row found at.
          ⊎_elim
          (λ (old : slice_get rows row ≡ Some found). are.taken row found old)
          (λ (new : (row ≡ length rows) × (marks ≡ found)).
          let here : length rows + 0 ≡ row = omega (arith, new.0) in
          subst (λ (ms : List PlacedMark). ArePlaced es operations (Row row) ms) new.1
          (placed_permuted es operations (Row row) (length operations) list.items marks permuted
          (subst (λ n. ArePlaced es operations (Row n) list.items) here
          (are.others 0 list (ap (λ (l : List (Vec PlacedMark A)). slice_get l 0) first)))))
          (pushed_at rows marks row found (subst (λ (l : List (List PlacedMark)). slice_get l row ≡ Some found) items at));
      others =
          λ i v at.
          let next : length rows + suc i ≡ length more + i = omega (arith, sized) in
          subst (λ n. ArePlaced es operations (Row n) v.items) next
          (are.others (suc i) v (ap (λ (l : List (Vec PlacedMark A)). slice_get l (suc i)) first ∙ at));
    }

pub taken_all : {A : Type 0} (es : List Element) (operations : List Op) (rows : List (List PlacedMark)) (left : List (Vec PlacedMark A)) → length left ≡ 0 → AreTaken es operations rows left → AreByRow es operations rows
taken_all es operations rows left none are =
    let whole : length rows + length left ≡ KEYS = are.sized in
    record { sized = omega (arith, none, whole); each = are.taken }
