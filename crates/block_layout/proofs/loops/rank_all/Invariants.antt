use Rattle.std.proofs.Common.{◌-◌, length}
use Rattle.bpf_words.specs.Words.{program_of}
use Rattle.block_layout.specs.Ranks.{AreRanks}
use Rattle.block_layout.proofs.loops.rank_all.Given as goal

abbrev pub invariant-ranks : goal.invariant-ranks
invariant-ranks l = AreRanks (program_of l.words) l.ranks.items l.count

abbrev pub decreases-ranks : goal.decreases-ranks
decreases-ranks l = length (program_of l.words) - l.count
