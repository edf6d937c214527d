use Rattle.std.proofs.Common.{◌≡◌, ◌≤◌, drop, string_bytes}
use Rattle.mark_anchors.specs.Ranges.{IsReached}
use Rattle.span_flatten.specs.Taken.{IsTaken, IsLastFormat}
use Rattle.span_flatten.proofs.flatten.flatten_window.Given as goal

abbrev pub invariant-loop-cut : goal.invariant-loop-cut
invariant-loop-cut l = record {
  reached : IsReached l.cut-items l.low l.cut-index l.from;
  behind : l.sweep.place ≤ l.from;
  elements : l.sweep.resolution.elements ≡ l.sequence.elements;
  marks : l.sweep.resolution.marks ≡ l.resolved.marks;
  taken : IsTaken l.sequence.elements l.resolved.marks l.low l.from (string_bytes l.text) l.rows.items;
  formatted : IsLastFormat l.sequence.elements l.resolved.marks l.sweep.place l.rows.items;
  at : l.cursor ≡ drop l.from l.sequence.elements;
}
