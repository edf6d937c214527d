-- The places at which comments hold, as runs of places side by side.
use Rattle.std.specs.Prelude.{◌≡◌, ℕ, ◌<◌, ◌≤◌, ◌^◌, ◌⊎◌, ◌&&◌, Bool, cond, nat_le, nat_lt, List, [], ◌∷◌, Some}
use Rattle.std.specs.Prelude.{Contains, slice_get}
use Rattle.change_ops.specs.declared.id.OpId.{OpId}
use Rattle.change_ops.specs.declared.attribute.Attribute.TheVariants.{Comment}
use Rattle.change_ops.specs.declared.attribute.Key.TheVariants as key
use Rattle.change_ops.specs.declared.operation.Op.{Op}
use Rattle.char_sequence.specs.declared.sequence.Element.{Element}
use Rattle.char_sequence.specs.Order.{Shows, IsAt}
use Rattle.mark_anchors.specs.Format.{Bears}
use Rattle.mark_anchors.specs.Marks.{AreMarks}
use Rattle.mark_anchors.specs.Placed.{ArePlaced}
use Rattle.mark_anchors.specs.declared.comment_runs.CommentRun.{CommentRun}
use Rattle.mark_anchors.specs.declared.placed.PlacedMark.{PlacedMark}

abbrev pub HasPlace : CommentRun → ℕ → Type 0
HasPlace run place = (run.from ≤ place) × (place < run.to)

-- the same as a test
abbrev pub has_place : CommentRun → ℕ → Bool
has_place run place = nat_le run.from place && nat_lt place run.to

-- the numbers of the runs that have the place
abbrev pub numbers_at : List CommentRun → ℕ → List ℕ
numbers_at [] place = []
numbers_at (run ∷ runs) place = cond (has_place run place) (run.number ∷ numbers_at runs place) (numbers_at runs place)

-- one of the runs is of the number and has the place
abbrev pub HasRun : List CommentRun → ℕ → ℕ → Type 0
HasRun runs n place = (run : CommentRun) × Contains runs run × (run.number ≡ n) × HasPlace run place

-- the run is of the comment's number, from the one place to the other
pub record IsRun (n from to : ℕ) (run : CommentRun) : Type 0 where
  pub number : run.number ≡ n
  pub begins : run.from ≡ from
  pub ends : run.to ≡ to
  pub some : 1 ≤ n
  pub short : n < 2 ^ 32

-- a run of a lesser number, or one of the same number that ends before the other begins
abbrev pub Precedes : CommentRun → CommentRun → Type 0
Precedes run other = (run.number < other.number) ⊎ ((run.number ≡ other.number) × (run.to ≤ other.from))

-- the runs stand by rising numbers, those of one number apart
pub record AreOrderly (runs : List CommentRun) : Type 0 where
  pub order : (i j : ℕ) (run other : CommentRun) → i < j → slice_get runs i ≡ Some run → slice_get runs j ≡ Some other
      → Precedes run other
  pub along : (run : CommentRun) → Contains runs run → run.from ≤ run.to
  pub some : (run : CommentRun) → Contains runs run → 1 ≤ run.number
  pub short : (run : CommentRun) → Contains runs run → run.number < 2 ^ 32

-- at each place of a run its comment holds
abbrev pub AreHeld : List Element → List Op → List CommentRun → Type 0
AreHeld es operations runs =
    (ops : List Op) (run : CommentRun) (place : ℕ) (e : OpId) → Shows es ops → AreMarks ops operations
    → Contains runs run → HasPlace run place → IsAt es e place → Bears ops e (Comment run.number)

-- each place at which the comment holds is in a run of its number
abbrev pub IsCovered : List Element → List Op → List CommentRun → ℕ → Type 0
IsCovered es operations runs n =
    (ops : List Op) (place : ℕ) (e : OpId) → Shows es ops → AreMarks ops operations → IsAt es e place
    → Bears ops e (Comment n) → HasRun runs n place

-- the runs have the places at which comments hold, and no other
pub record AreHolding (es : List Element) (operations : List Op) (runs : List CommentRun) : Type 0 where
  pub held : AreHeld es operations runs
  pub covered : (n : ℕ) → IsCovered es operations runs n

-- the runs of lesser numbers that were there, and behind them those of the comment with these marks
pub record AreAdded (operations : List Op) (n : ℕ) (marks : List PlacedMark) (old new : List CommentRun) : Type 0 where
  pub orderly : AreOrderly new
  pub up_to : (run : CommentRun) → Contains new run → run.number ≤ n
  pub kept : (m place : ℕ) → HasRun old m place → HasRun new m place
  pub held : (es : List Element) → ArePlaced es operations (key.Comment n) marks → AreHeld es operations old
      → AreHeld es operations new
  pub covered : (es : List Element) → ArePlaced es operations (key.Comment n) marks → IsCovered es operations new n
