-- The marks of comments.
use Rattle.std.specs.Prelude.{◌≡◌, ◌<◌, ◌≤◌, ℕ, List, Some, Contains, length, map, slice_get}
use Rattle.std.specs.List.Sorted.{IsNonDecreasingBy}
use Rattle.change_ops.specs.declared.attribute.Key.TheVariants.{Comment}
use Rattle.change_ops.specs.declared.operation.Op.{Op}
use Rattle.char_sequence.specs.declared.sequence.Element.{Element}
use Rattle.mark_anchors.specs.Places.{IsOfKey}
use Rattle.mark_anchors.specs.Placed.{IsPlaced}
use Rattle.mark_anchors.specs.declared.placed.PlacedMark.{PlacedMark}
use Rattle.mark_anchors.specs.declared.comments.CommentMark.{CommentMark}

abbrev pub number_of : CommentMark → ℕ
number_of comment = comment.number

-- the marks alone
abbrev pub placed_of : List CommentMark → List PlacedMark
placed_of comments = map (λ c. c.mark) comments

-- those of the marks that are of comments, with the comments' numbers
pub record AreNumbered (marks : List PlacedMark) (comments : List CommentMark) : Type 0 where
  pub held : (c : CommentMark) → Contains comments c → Contains marks c.mark × (c.mark.key ≡ Comment c.number)
  pub every : (n : ℕ) (p : PlacedMark) → Contains marks p → p.key ≡ Comment n
      → Contains comments (record { number = n; mark = p })

-- the operations on comments with their places, by rising numbers of the comments
pub record AreCommented (es : List Element) (operations : List Op) (comments : List CommentMark) : Type 0 where
  pub rising : IsNonDecreasingBy number_of comments
  pub placed : (c : CommentMark) → Contains comments c
      → (o : Op) × (slice_get operations c.mark.index ≡ Some o) × IsPlaced es (Comment c.number) o c.mark
  pub every : (j n : ℕ) (o : Op) → slice_get operations j ≡ Some o → IsOfKey (Comment n) o
      → (c : CommentMark) × Contains comments c × (c.number ≡ n) × (c.mark.index ≡ j)

-- the marks from the one index up to the other are of one comment, and the next is of another
pub record IsCommentEnd (comments : List CommentMark) (from to : ℕ) : Type 0 where
  pub some : from < to
  pub within : to ≤ length comments
  pub same : (i : ℕ) (first c : CommentMark) → from ≤ i → i < to → slice_get comments from ≡ Some first
      → slice_get comments i ≡ Some c → c.number ≡ first.number
  pub next : (first c : CommentMark) → slice_get comments from ≡ Some first → slice_get comments to ≡ Some c
      → c.number ≡ first.number → ⊥
