use Rattle.std.proofs.Common.{[], ◌++◌, refl, sym, subst, ap, ◌∙◌, append_assoc, string_bytes, inl, inr}
use Rattle.refusals.specs.declared.reason.Reason.TheVariants as reason
use Rattle.session_lines.specs.Replies.{reason_of}
use Rattle.session_lines.specs.Requests.{IsNext}
use Rattle.session_lines.specs.declared.reply.Reply.TheVariants as reply
use Rattle.session_lines.specs.declared.request.Next.TheVariants as next
use Rattle.session_reads.specs.Found.{found_text}
use Rattle.hub_sessions.specs.Sessions.{SessionState, session_state, Answers, FallsShort, reply_line}
use Rattle.hub_sessions.proofs.Conversing.{refused_line, broke_still, broke_short, unanswered, pulled_short}
use Rattle.hub_sessions.proofs.conversation.take_turn.Goals as goal

pub returns-in_ok-push_line-in-Request-clause-ok : goal.returns-in_ok-push_line-in-Request-clause-ok
returns-in_ok-push_line-in-Request-clause-ok g c =
    let before : SessionState g.N.Naming.size g.K.Keeper.kept = session_state g.N.Naming.size g.K.Keeper.kept (g.K.Keeper.stores c.args.keeper.now) c.args.share.now c.args.held.now.items c.args.left.now c.args.hub.now.options in
    let now : SessionState g.N.Naming.size g.K.Keeper.kept = session_state g.N.Naming.size g.K.Keeper.kept (g.K.Keeper.stores c.answer.new.keeper) c.answer.new.share c.answer.new.held.items c.answer.new.left c.args.hub.now.options in
    let lines = string_bytes c.answer.new.out in
    let answer = c.in_ok-answer-in-Request.answer in
    let items = found_text answer.found ++ lines in (
      next.Request c.in-Request.request,
      items,
      answer.reply,
      record {
        next = subst (λ n. IsNext c.args.lines.now.left n c.next_request.new.reader.left) c.in-Request.is c.in_ok-request.ensures;
        met = subst (λ out. Answers c.in-Request.request before out items answer.reply now) c.empty_reply.ensures c.in_ok-answer-in-Request.ensures.answers;
      },
      ap (λ l. found_text answer.found ++ l) c.in_ok-push_line-in-Request.ensures.ok ∙ sym (append_assoc (found_text answer.found) lines (reply_line answer.reply)),
    )

pub returns-in_ok-push_line-in-Refused-clause-ok : goal.returns-in_ok-push_line-in-Refused-clause-ok
returns-in_ok-push_line-in-Refused-clause-ok g c = (
  next.Refused c.in-Refused.refusal,
  [],
  reply.Refused (reason_of c.in-Refused.refusal),
  record {
    next = subst (λ n. IsNext c.args.lines.now.left n c.next_request.new.reader.left) c.in-Refused.is c.in_ok-request.ensures;
    met = (refl, refl, refl);
  },
  refused_line _ _ c.from.result _ c.in_ok-push_line-in-Refused.ensures.ok c.empty_reply.ensures c.from.ensures,
)

pub returns-in_ok-push_line-in-TooLong-clause-ok : goal.returns-in_ok-push_line-in-TooLong-clause-ok
returns-in_ok-push_line-in-TooLong-clause-ok g c = (
  inr (inl (
    subst (λ n. IsNext c.args.lines.now.left n c.next_request.new.reader.left) c.in-TooLong.is c.in_ok-request.ensures,
    refused_line _ _ reason.LineTooLong _ c.in_ok-push_line-in-TooLong.ensures.ok c.empty_reply.ensures refl,
  )),
  refl,
)

pub returns-in_ok-push_line-in-Foreign-clause-ok : goal.returns-in_ok-push_line-in-Foreign-clause-ok
returns-in_ok-push_line-in-Foreign-clause-ok g c = (
  inr (inr (
    subst (λ n. IsNext c.args.lines.now.left n c.next_request.new.reader.left) c.in-Foreign.is c.in_ok-request.ensures,
    refused_line _ _ reason.BadCommand _ c.in_ok-push_line-in-Foreign.ensures.ok c.empty_reply.ensures refl,
  )),
  refl,
)

pub returns-in_err-request-clause-err : goal.returns-in_err-request-clause-err
returns-in_err-request-clause-err g c = broke_still c.from_residual.result _ _ _ _ c.empty_reply.ensures

pub returns-in_err-answer-in-Request-clause-err : goal.returns-in_err-answer-in-Request-clause-err
returns-in_err-answer-in-Request-clause-err g c =
    let came = subst (λ n. IsNext c.args.lines.now.left n c.next_request.new.reader.left) c.in-Request.is c.in_ok-request.ensures in
    let short = pulled_short g.N.Naming.size g.K.Keeper.kept c.in-Request.request (g.K.Keeper.stores c.args.keeper.now) (g.K.Keeper.stores c.answer.new.keeper) c.args.share.now c.answer.new.share c.args.held.now.items c.answer.new.held.items c.args.left.now c.answer.new.left c.args.hub.now.options c.args.lines.now.left (string_bytes c.answer.new.out) c.next_request.new.reader.left c.answer.ensures.same came c.in_err-answer-in-Request.ensures.short in
    broke_short c.from_residual-in_err-answer-in-Request.result _ _ _ _ _ c.from_residual-in_err-answer-in-Request.ensures.1 short

pub returns-in_err-push_line-in-Request-clause-err : goal.returns-in_err-push_line-in-Request-clause-err
returns-in_err-push_line-in-Request-clause-err g c =
    let before : SessionState g.N.Naming.size g.K.Keeper.kept = session_state g.N.Naming.size g.K.Keeper.kept (g.K.Keeper.stores c.args.keeper.now) c.args.share.now c.args.held.now.items c.args.left.now c.args.hub.now.options in
    let now : SessionState g.N.Naming.size g.K.Keeper.kept = session_state g.N.Naming.size g.K.Keeper.kept (g.K.Keeper.stores c.answer.new.keeper) c.answer.new.share c.answer.new.held.items c.answer.new.left c.args.hub.now.options in
    let lines = string_bytes c.answer.new.out in
    let answer = c.in_ok-answer-in-Request.answer in
    let came = subst (λ n. IsNext c.args.lines.now.left n c.next_request.new.reader.left) c.in-Request.is c.in_ok-request.ensures in
    let met : Answers c.in-Request.request before [] (found_text answer.found ++ lines) answer.reply now = subst (λ out. Answers c.in-Request.request before out (found_text answer.found ++ lines) answer.reply now) c.empty_reply.ensures c.in_ok-answer-in-Request.ensures.answers in
    let short = unanswered c.in-Request.request before c.args.lines.now.left (found_text answer.found) lines answer.reply now c.next_request.new.reader.left came met c.in_ok-answer-in-Request.ensures.apart in
    broke_short c.from_residual-in_err-push_line-in-Request.result _ _ _ _ _ c.from_residual-in_err-push_line-in-Request.ensures.1 (subst (λ l. FallsShort before c.args.lines.now.left l now c.next_request.new.reader.left) (sym c.in_err-push_line-in-Request.ensures.err) short)

pub returns-in_err-push_line-in-Refused-clause-err : goal.returns-in_err-push_line-in-Refused-clause-err
returns-in_err-push_line-in-Refused-clause-err g c = broke_still c.from_residual-in_err-push_line-in-Refused.result _ _ _ _ (c.in_err-push_line-in-Refused.ensures.err ∙ c.empty_reply.ensures)

pub returns-in_err-push_line-in-TooLong-clause-err : goal.returns-in_err-push_line-in-TooLong-clause-err
returns-in_err-push_line-in-TooLong-clause-err g c = broke_still c.from_residual-in_err-push_line-in-TooLong.result _ _ _ _ (c.in_err-push_line-in-TooLong.ensures.err ∙ c.empty_reply.ensures)

pub returns-in_err-push_line-in-Foreign-clause-err : goal.returns-in_err-push_line-in-Foreign-clause-err
returns-in_err-push_line-in-Foreign-clause-err g c = broke_still c.from_residual-in_err-push_line-in-Foreign.result _ _ _ _ (c.in_err-push_line-in-Foreign.ensures.err ∙ c.empty_reply.ensures)
