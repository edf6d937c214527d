use Rattle.std.proofs.Common.{◌≡◌, ℕ, ◌<◌, ◌≤◌, Some, All, length}
use Rattle.std.specs.List.{slice_get}
use Rattle.change_ops.specs.Lines.{ops_of}
use Rattle.change_ops.specs.declared.line.Line.{Line}
use Rattle.version_windows.specs.Touches.{AllTouchOneOf}
use Rattle.version_windows.proofs.touched.touched_by_each.Given as goal

abbrev pub invariant-loop-line : goal.invariant-loop-line
invariant-loop-line l = record {
  order : All (λ range. range.low ≤ range.high) l.ranges.items;
  within : All (λ range. range.high ≤ length l.sequence.elements) l.ranges.items;
  touched : (k : ℕ) (line : Line) → k < l.line-index → slice_get l.lines k ≡ Some line
      → AllTouchOneOf l.sequence (ops_of line) l.ranges.items;
}
