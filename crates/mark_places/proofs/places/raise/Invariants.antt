use Rattle.std.proofs.Common.{◌≡◌, ◌++◌, map, take, drop}
use Rattle.mark_places.specs.Ranks.{mark_raised}
use Rattle.mark_places.proofs.places.raise.Given as goal

abbrev pub invariant-loop-block : goal.invariant-loop-block
invariant-loop-block l =
    l.blocks ≡ map (map (mark_raised l.shift.from l.shift.by)) (take l.block-index l.initial.blocks) ++ drop l.block-index l.initial.blocks
