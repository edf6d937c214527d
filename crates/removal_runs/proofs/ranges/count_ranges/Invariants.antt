use Rattle.std.proofs.Common.{◌≤◌, length, take}
use Rattle.std.specs.List.{flat_map}
use Rattle.removal_runs.specs.IdSets.{ids_of_peer}
use Rattle.removal_runs.proofs.ranges.count_ranges.Given as goal

abbrev pub invariant-loop-peer : goal.invariant-loop-peer
invariant-loop-peer l = l.count ≤ length (flat_map ids_of_peer (take l.peer-index l.peers))
