use Rattle.bpf_words.specs.Words.{program_of}
use Rattle.block_layout.specs.Structure.{AreSound}
use Rattle.block_layout.proofs.structure.check.Given as goal

abbrev pub invariant-loop-slot : goal.invariant-loop-slot
invariant-loop-slot l = AreSound (program_of l.words) l.slot
