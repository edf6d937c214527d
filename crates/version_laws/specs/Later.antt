-- Operations that came later leave those before them as they were.
use Rattle.std.specs.Prelude.{List, Option}
use Rattle.change_ops.specs.declared.id.OpId.{OpId}
use Rattle.change_ops.specs.declared.operation.Op.{Op}
use Rattle.char_sequence.specs.Tree.{Inserts}

-- each insert of the old operations is one of the new, and a character of the old has no other parent there
pub record Extends (old new : List Op) : Type 0 where
  pub more : (x : OpId) (p : Option OpId) → Inserts old x p → Inserts new x p
  pub same : (x : OpId) (p q : Option OpId) → Inserts old x p → Inserts new x q → Inserts old x q
