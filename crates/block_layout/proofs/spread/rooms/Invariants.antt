use Rattle.std.proofs.Common.{◌≡◌, ◌++◌, drop}
use Rattle.bpf_words.specs.Words.{program_of}
use Rattle.block_layout.specs.Rooms.{rooms_of}
use Rattle.block_layout.proofs.spread.rooms.Given as goal

abbrev pub invariant-loop-slot : goal.invariant-loop-slot
invariant-loop-slot l = l.rooms.items ++ rooms_of (drop l.slot (program_of l.words)) ≡ rooms_of (program_of l.words)
