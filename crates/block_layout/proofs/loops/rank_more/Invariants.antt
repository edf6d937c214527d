use Rattle.std.proofs.Common.{◌≡◌, ◌≤◌, length}
use Rattle.bpf_words.specs.Words.{program_of}
use Rattle.block_layout.specs.Ranks.{AreRanks, AreOpenFrom}
use Rattle.block_layout.proofs.loops.rank_more.Given as goal

abbrev pub invariant-slots : goal.invariant-slots
invariant-slots l = record {
  ranks : AreRanks (program_of l.words) l.ranks l.ranked;
  more : l.count ≤ l.ranked;
  within : l.slot ≤ length (program_of l.words);
  all : l.ranked ≡ l.count → AreOpenFrom (program_of l.words) l.ranks l.slot;
}

abbrev pub decreases-slots : goal.decreases-slots
decreases-slots l = l.slot
