use Rattle.std.proofs.Common.{◌+◌, slice_set, refl, arith}
use Rattle.bpf_words.specs.Words.{program_of}
use Rattle.block_layout.specs.Ranks.{HasNone}
use Rattle.block_layout.proofs.Ranks.{ranked_more}
use Rattle.block_layout.proofs.loops.rank_one.Goals as goal

pub returns-in-None-clause-ranks : goal.returns-in-None-clause-ranks
returns-in-None-clause-ranks c =
    let long = c.requires.ranks.long in
    let none : HasNone c.args.ranks.now c.args.slot = (omega arith, omega arith) in
    ranked_more (program_of c.args.words.now) c.args.ranks.now (slice_set c.args.ranks.now c.args.slot (c.args.ranked + 1)) c.args.slot c.args.ranked c.requires.ranks none c.in-None.ensures refl
