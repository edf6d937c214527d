-- What stays the same where changes stand in place of others.
use Rattle.std.specs.Prelude.{◌≡◌, ◌≤◌, List, length, All}
use Rattle.change_ops.specs.Changes.{Change, IsChange}
use Rattle.change_ops.specs.declared.size.Size.{Size}
use Rattle.change_history.specs.Accepted.{operations_of, IsAccepted, AreAccepted}

-- The new ones are changes of the same operations in the same order, and no more of them. They are accepted where the
-- others are at the size, and so is a change that comes later.
pub record Replaces (size : Size) (changes new : List Change) : Type 0 where
  pub same : operations_of new ≡ operations_of changes
  pub limited : All IsChange changes → All IsChange new
  pub fewer : length new ≤ length changes
  pub accepted : AreAccepted size changes → AreAccepted size new
  pub later : (change : Change) → IsAccepted size changes change → IsAccepted size new change
