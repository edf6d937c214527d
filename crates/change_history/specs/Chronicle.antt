-- What is seen of a history.
use Rattle.std.specs.Prelude.{List}
use Rattle.change_ops.specs.Changes.{Change}
use Rattle.change_ops.specs.declared.size.Size.{Size}

-- the size that it was made with, and the changes that were accepted, in their order
pub record Chronicle : Type 0 where
  pub size : Size
  pub changes : List Change
