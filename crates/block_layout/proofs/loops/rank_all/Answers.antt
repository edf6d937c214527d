use Rattle.std.proofs.Common.{rules}
use Rattle.bpf_words.specs.Words.{program_of}
use Rattle.block_layout.proofs.Ranks.{none_ranked}
use Rattle.block_layout.proofs.loops.rank_all.Goals as goal

pub ranks-init : goal.ranks-init
ranks-init c = none_ranked (program_of c.args.words.now) c.in_ok-ranks.ranks.items c.len.result (c.in_ok-ranks.ensures.items_if_clones_equal (λ y same. search rules)) c.len.ensures.value
