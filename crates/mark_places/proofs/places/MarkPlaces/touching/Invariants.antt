use Rattle.std.proofs.Common.{◌≡◌, map, take}
use Rattle.std.specs.List.{flat_map}
use Rattle.mark_places.specs.Ranks.{mark_raised, place_of}
use Rattle.mark_places.specs.Touching.{touching}
use Rattle.mark_places.proofs.places.MarkPlaces.touching.Given as goal

abbrev pub invariant-loop-block : goal.invariant-loop-block
invariant-loop-block l =
    l.marks.items ≡ touching l.ranges (map place_of (map (mark_raised l.self-inside.pending.from l.self-inside.pending.by) (flat_map (λ b. b) (take l.block-index l.block-items))))
