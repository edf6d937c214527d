use Rattle.std.proofs.Common.{◌∙◌, sym, ap, arith}
use Rattle.session_subscribers.specs.Items.{item_reply}
use Rattle.session_subscribers.proofs.Givings.{takes_more, takes_unshown, where_err}
use Rattle.session_subscribers.proofs.pulling.give_pending.Goals as goal

pub returns-in_err-push_line-clause-err : goal.returns-in_err-push_line-clause-err
returns-in_err-push_line-clause-err g c =
    let given = c.in-Some.ensures.pending in
    where_err c.from_residual.result _
    (takes_unshown c.loop-given.given c.args.most given.0 _ _ _ _ _ _ (omega arith) c.loop-given.invariant c.in-Some.ensures.same.0 c.in-Some.ensures.same.1 given.2 c.in_err-push_line.ensures.err)

pub loop-given-preserved : goal.loop-given-preserved
loop-given-preserved g c =
    let given = c.in-Some.ensures.pending in
    takes_more c.loop-given.given given.0 c.reply_of.result _ _ _ _ _ _ c.loop-given.invariant c.in-Some.ensures.same.0 c.in-Some.ensures.same.1 given.2 (c.reply_of.ensures ∙ ap item_reply (sym given.1)) c.in_ok-push_line.ensures.ok
