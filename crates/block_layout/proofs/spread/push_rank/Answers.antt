use Rattle.std.proofs.Common.{◌+◌}
use Rattle.bpf_words.specs.Words.{program_of}
use Rattle.block_layout.specs.Rooms.{above}
use Rattle.block_layout.proofs.Spreading.{none_added, second_added, insn_added}
use Rattle.block_layout.proofs.spread.push_rank.Goals as goal

pub returns-in-None : goal.returns-in-None
returns-in-None c = λ next below filled.
    none_added (program_of c.args.words.now) c.args.ranks.now c.args.rooms.now c.requires.ranks.0 c.args.rank next c.requires.ranks.1 c.requires.rooms below c.args.bytes.now.items c.in-None.ensures filled

pub returns-in-None-insn : goal.returns-in-None-insn
returns-in-None-insn c = λ next below filled.
    second_added (program_of c.args.words.now) c.args.ranks.now c.args.rooms.now c.requires.ranks.0 c.args.rank next c.requires.ranks.1 c.requires.rooms below c.args.bytes.now.items c.in-Some.slot c.in-Some.ensures.1 c.in-None-insn.ensures.value filled

pub returns : goal.returns
returns c = λ next below filled.
    let block = c.block_at-block.ensures in
    insn_added (program_of c.args.words.now) c.args.ranks.now c.args.rooms.now c.requires.ranks.0 c.args.rank next c.requires.ranks.1 c.requires.rooms below c.args.bytes.now.items c.push_block.new.bytes.items c.in-Some.slot c.in-Some-insn.insn c.block_at-block.result.first c.block_at-block.result.behind
    c.in-Some.ensures.1 c.in-Some-insn.ensures.value block.is
    (c.in_ok-push_block.ensures (1 + above c.args.ranks.now c.args.rooms.now c.args.rank) block.first block.behind block.one filled)
