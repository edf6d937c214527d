use Rattle.std.proofs.Common.{◌≡◌, take}
use Rattle.std.specs.Prelude.{ltb}
use Rattle.std.specs.List.{list_any}
use Rattle.mark_places.specs.Uniform.{is_between}
use Rattle.mark_places.proofs.block.has_rank_between.Given as goal

abbrev pub invariant-loop-rank : goal.invariant-loop-rank
invariant-loop-rank l = ltb l.least l.width ≡ list_any (is_between l.from l.below) (take l.rank-index l.ranks)
