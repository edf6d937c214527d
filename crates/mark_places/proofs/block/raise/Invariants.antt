use Rattle.std.proofs.Common.{◌≡◌, ◌++◌, map, take, drop}
use Rattle.mark_places.specs.Ranks.{raised}
use Rattle.mark_places.proofs.block.raise.Given as goal

abbrev pub invariant-loop-rank : goal.invariant-loop-rank
invariant-loop-rank l = l.ranks ≡ map (raised l.from l.by) (take l.rank-index l.initial.ranks) ++ drop l.rank-index l.initial.ranks
