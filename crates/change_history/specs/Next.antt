-- The parts after a change, beside the version before it.
use Rattle.std.specs.Prelude.{ℕ, List, ◌++◌}
use Rattle.change_ops.specs.Lines.{ops_of_lines}
use Rattle.change_ops.specs.declared.line.Line.{Line}
use Rattle.change_ops.specs.declared.operation.Op.{Op}
use Rattle.change_ops.specs.declared.size.Size.TheVariants.{Large}
use Rattle.span_flatten.specs.Version.{Version, IsVersion}
use Rattle.change_history.specs.Kept.{Keeps, AreAllAccepted}
use Rattle.change_history.specs.declared.parts.Parts.{Parts}

-- the version and the parts before are of operations, after which those of the lines are accepted, and the other parts
-- are of them all
pub record AreNextParts (ops : List Op) (previous : Version) (lines : List Line) (before parts : Parts) : Type 0 where
  pub kept_before : Keeps ops before
  pub version : (number : ℕ) × IsVersion ops number previous
  pub accepted : AreAllAccepted Large ops lines
  pub kept : Keeps (ops ++ ops_of_lines lines) parts
