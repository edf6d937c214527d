use Rattle.std.proofs.Common.{string_bytes}
use Rattle.hub_sessions.proofs.Conversing.{told_short}
use Rattle.hub_sessions.proofs.conversation.answer.Goals as goal

pub returns-in_err-reply-in-Pull-clause-short : goal.returns-in_err-reply-in-Pull-clause-short
returns-in_err-reply-in-Pull-clause-short g c =
    told_short c.from_residual.result g.N.Naming.size c.args.request c.args.share.now c.pull.new.share c.in-Pull.subscriber c.in-Pull.count c.args.held.now.items c.pull.new.held.items c.args.left.now (string_bytes c.args.out.now) (string_bytes c.pull.new.out) c.in-Pull.is
    c.in_err-reply-in-Pull.ensures.err c.requires.empty
