use Rattle.std.proofs.Common.{rules}
use Rattle.bpf_words.proofs.ReadsBack.{reads-back}
use Rattle.bpf_words.proofs.encoding.encode.Goals as goal

pub returns-in-None-clause-reads_back : goal.returns-in-None-clause-reads_back
returns-in-None-clause-reads_back c =
    reads-back c.args.insn c.fields.result c.fields.ensures.value (search rules) c.fields.ensures.small.0 c.fields.ensures.small.1
    (search rules) (search rules) c.fields.ensures.valid

pub returns-in-Some-clause-reads_back : goal.returns-in-Some-clause-reads_back
returns-in-Some-clause-reads_back c =
    reads-back c.args.insn c.fields.result c.fields.ensures.value (search rules) c.fields.ensures.small.0 c.fields.ensures.small.1
    (search rules) (search rules) c.fields.ensures.valid
