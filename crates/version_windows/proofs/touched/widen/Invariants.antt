use Rattle.std.proofs.Common.{◌≡◌, ℕ, ◌<◌, ◌≤◌, get_or}
use Rattle.mark_places.specs.declared.range.PlaceRange.{PlaceRange}
use Rattle.version_windows.specs.Edges.{IsWidened}
use Rattle.version_windows.proofs.touched.widen.Given as goal

abbrev pub invariant-loop-range : goal.invariant-loop-range
invariant-loop-range l = record {
  before : (k : ℕ) (d : PlaceRange) → k < l.range-index → IsWidened l.sequence.elements (get_or l.initial.ranges k d) (get_or l.ranges k d);
  behind : (k : ℕ) (d : PlaceRange) → l.range-index ≤ k → get_or l.ranges k d ≡ get_or l.initial.ranges k d;
}
