use Rattle.bpf_words.specs.Words.{program_of}
use Rattle.block_layout.specs.Structure.{AreOn}
use Rattle.block_layout.proofs.structure.first_back.Given as goal

abbrev pub invariant-loop-slot : goal.invariant-loop-slot
invariant-loop-slot l = AreOn (program_of l.words) l.slot
