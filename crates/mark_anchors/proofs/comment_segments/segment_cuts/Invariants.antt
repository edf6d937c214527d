use Rattle.std.proofs.Common.{ℕ, ◌≤◌, ◌-◌}
use Rattle.std.specs.Prelude.{◌^◌}
use Rattle.std.specs.List.{Contains}
use Rattle.std.specs.List.Sorted.{IsStrictlyIncreasing}
use Rattle.mark_anchors.proofs.comment_segments.segment_cuts.Given as goal

abbrev pub invariant-loop-cut : goal.invariant-loop-cut
invariant-loop-cut l = record {
  rising : IsStrictlyIncreasing l.cuts.items;
  behind : (c : ℕ) → Contains l.cuts.items c → c ≤ l.from;
}

abbrev pub decreases-loop-cut : goal.decreases-loop-cut
decreases-loop-cut l = 2 ^ 64 - l.from
