use Rattle.bpf_words.specs.Words.{program_of}
use Rattle.hub_commands.proofs.Replies.{judged}
use Rattle.hub_commands.proofs.check.rejection.Goals as goal

pub returns : goal.returns
returns c =
    judged c.args.profile (program_of c.args.words.now) c.verify.result c.err.result c.err.ensures.value c.verify.ensures.same c.verify.ensures.seen c.verify.ensures.structured c.verify.ensures.rejects c.verify.ensures.accepts
