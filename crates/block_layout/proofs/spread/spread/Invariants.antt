use Rattle.bpf_words.specs.Words.{program_of}
use Rattle.block_layout.specs.Spread.{AreSpread}
use Rattle.block_layout.proofs.spread.spread.Given as goal

abbrev pub invariant-ranks : goal.invariant-ranks
invariant-ranks l = AreSpread (program_of l.words) l.ranks l.rooms l.bytes.items l.rank

abbrev pub decreases-ranks : goal.decreases-ranks
decreases-ranks l = l.rank
