-- Numbers that rise, and the comment of a mark.
use Rattle.std.proofs.Common.{◌≡◌, ℕ, ◌+◌, ◌<◌, List, Some, get_or, arith}
use Rattle.std.specs.List.{slice_get}
use Rattle.std.specs.List.Sorted.{IsStrictlyIncreasing}
use Rattle.std.proofs.lemmas.Option.{slice_get-get_or, get_or_from_slice_get, slice_get_within}
use Rattle.std.proofs.lemmas.List.Kept.{AllPairs-from_increasing}
use Rattle.change_ops.specs.declared.id.OpId.{OpId}
use Rattle.change_ops.specs.declared.attribute.Attribute.TheVariants.{Comment}
use Rattle.change_ops.specs.declared.operation.Op.{Op}
use Rattle.char_sequence.proofs.Lists.{InOrder}
use Rattle.change_ops.specs.declared.attribute.Key.TheVariants as key
use Rattle.char_sequence.specs.declared.sequence.Element.{Element}
use Rattle.mark_anchors.specs.Format.{Bears, Decides}
use Rattle.mark_anchors.specs.Marks.{AreMarks}
use Rattle.mark_anchors.specs.Commented.{AreCommented}
use Rattle.mark_anchors.specs.declared.comments.CommentMark.{CommentMark}
use Rattle.mark_anchors.proofs.Lists.{contains_at}
use Rattle.mark_anchors.proofs.Deciding.{of_key_from_touches, mark_from_key}

pub rises : (xs : List ℕ) → IsStrictlyIncreasing xs → InOrder (λ x y. x < y) xs
rises xs h i j x y less g k =
    let pairs : get_or xs i 0 < get_or xs j 0 = AllPairs-from_increasing xs h i j 0 less (slice_get_within xs j y k) in
    let at : get_or xs i 0 ≡ x = get_or_from_slice_get xs i x 0 g in
    let next : get_or xs j 0 ≡ y = get_or_from_slice_get xs j y 0 k in
    omega arith

pub increasing : (xs : List ℕ) → InOrder (λ x y. x < y) xs → IsStrictlyIncreasing xs
increasing xs h k within =
    h k (k + 1) (get_or xs k 0) (get_or xs (k + 1) 0) (omega arith)
    (slice_get-get_or xs k 0 (omega arith)) (slice_get-get_or xs (k + 1) 0 within)

-- the comment of a mark that the character bears is one of all
pub borne_among : (ops : List Op) (es : List Element) (operations : List Op) (cs : List CommentMark) (e : OpId) (n : ℕ)
    → AreMarks ops operations → AreCommented es operations cs → Bears ops e (Comment n)
    → (i : ℕ) × ((c : CommentMark) × (slice_get cs i ≡ Some c) × (c.number ≡ n))
borne_among ops es operations cs e n are commented bears =
    let d : Decides ops (key.Comment n) e bears.0 = bears.1 in
    let of_key = of_key_from_touches ops (key.Comment n) e bears.0 d.touches in
    let j = contains_at operations bears.0 (are.listed bears.0 d.held (mark_from_key (key.Comment n) bears.0 of_key)) in
    let c = commented.every j.0 n bears.0 j.1 of_key in
    let i = contains_at cs c.0 c.1 in
    (i.0, (c.0, i.1, c.2))
