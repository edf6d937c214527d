use Rattle.std.proofs.Common.{ℕ, ◌<◌, ◌≤◌, get_or}
use Rattle.std.specs.List.{Contains}
use Rattle.mark_places.proofs.block.greatest_of.Given as goal

abbrev pub invariant-loop-rank : goal.invariant-loop-rank
invariant-loop-rank l = record {
  bound : (k : ℕ) → k < l.rank-index → get_or l.ranks k 0 ≤ l.greatest;
  reached : Contains l.ranks l.greatest;
}
