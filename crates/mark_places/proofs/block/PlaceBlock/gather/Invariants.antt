use Rattle.std.proofs.Common.{◌≡◌, ◌++◌, map, take}
use Rattle.mark_places.specs.Ranks.{mark_raised, place_of}
use Rattle.mark_places.specs.Touching.{touching}
use Rattle.mark_places.proofs.block.PlaceBlock.gather.Given as goal

abbrev pub invariant-loop-i : goal.invariant-loop-i
invariant-loop-i l = l.found.items ≡ l.fn.found.items ++ touching l.ranges (map place_of (take l.i (map (mark_raised l.shift.from l.shift.by) l.self)))
