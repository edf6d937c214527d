-- Versions that operations make.
use Rattle.std.specs.Prelude.{ℕ, List}
use Rattle.change_ops.specs.declared.operation.Op.{Op}
use Rattle.char_sequence.specs.declared.sequence.Element.{Element}
use Rattle.char_sequence.specs.Order.{Shows}
use Rattle.span_flatten.specs.Version.{Version, IsVersion}

-- the version is one of operations that make a text
pub record IsMade (version : Version) : Type 0 where
  pub ops : List Op
  pub elements : List Element
  pub shows : Shows elements ops
  pub number : ℕ
  pub is : IsVersion ops number version
