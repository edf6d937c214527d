-- What it takes to make the version after a change from the one before it.
use Rattle.std.specs.Prelude.{ℕ, List, ◌++◌}
use Rattle.change_ops.specs.Lines.{ops_of_lines}
use Rattle.change_ops.specs.declared.line.Line.{Line}
use Rattle.change_ops.specs.declared.operation.Op.{Op}
use Rattle.change_ops.specs.declared.size.Size.TheVariants.{Large}
use Rattle.char_sequence.specs.Acceptance.{AcceptsAll}
use Rattle.char_sequence.specs.Held.{Sequence, HoldsRemovals}
use Rattle.char_sequence.specs.Order.{Shows}
use Rattle.char_sequence.specs.declared.sequence.Element.{Element}
use Rattle.mark_anchors.specs.Marks.{AreMarks}
use Rattle.span_flatten.specs.Version.{Version, IsVersion}

-- the version and the old elements are of operations, after which those of the lines are accepted, one after the other;
-- the elements, the removals that the sequence holds, and the marks are of them all
pub record IsStep (ops : List Op) (previous : Version) (old : List Element) (sequence : Sequence) (held : List Op)
    (lines : List Line) : Type 0 where
  pub shows_before : Shows old ops
  pub version : (number : ℕ) × IsVersion ops number previous
  pub accepted : AcceptsAll Large ops (ops_of_lines lines)
  pub shows : Shows sequence.elements (ops ++ ops_of_lines lines)
  pub removals : HoldsRemovals sequence.removals (ops ++ ops_of_lines lines)
  pub marks : AreMarks (ops ++ ops_of_lines lines) held
