use Rattle.bpf_words.specs.Words.{program_of}
use Rattle.block_layout.specs.Ranks.{IsWalked, unranked}
use Rattle.block_layout.proofs.loops.walk_round.Given as goal

abbrev pub invariant-slots : goal.invariant-slots
invariant-slots l = IsWalked (program_of l.words) l.ranks l.path.items l.lengths.items l.slot

abbrev pub decreases-slots : goal.decreases-slots
decreases-slots l = unranked l.lengths.items
