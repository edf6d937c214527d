use Rattle.std.proofs.Common.{◌<◌, arith}
use Rattle.bpf_words.specs.Words.{program_of}
use Rattle.loop_check.proofs.Keeping.{starts_there}
use Rattle.loop_check.proofs.kept.insn_at.Goals as goal

pub returns : goal.returns
returns c =
    let below : c.args.slot < 4096 = omega arith in
    starts_there (program_of c.args.words.now) c.args.slot c.insn.result below c.insn.ensures.value
