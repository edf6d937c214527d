use Rattle.std.proofs.Common.{◌≡◌, ◌++◌, map, take, drop}
use Rattle.char_sequence.specs.Chunks.{moved}
use Rattle.char_sequence.proofs.chunk_names.move_on.Given as goal

abbrev pub invariant-loop-name : goal.invariant-loop-name
invariant-loop-name l = l.positions ≡ map (moved l.position) (take l.name l.initial.positions) ++ drop l.name l.initial.positions
