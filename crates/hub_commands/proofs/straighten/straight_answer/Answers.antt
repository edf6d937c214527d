use Rattle.std.proofs.Common.{◌≡◌, ℕ, List, ◌∙◌, ap}
use Rattle.refusals.specs.declared.reason.Reason.{Reason}
use Rattle.hub_commands.specs.Answers.{Answer, done}
use Rattle.hub_commands.specs.Hexadecimal.{slot_lines}
use Rattle.hub_commands.specs.Reasons.{refusal}
use Rattle.hub_commands.specs.Straightened.{IsStraightReply, straight_on, refused_by}
use Rattle.hub_commands.proofs.Replies.{mapped}
use Rattle.hub_commands.proofs.straighten.straight_answer.Goals as goal

pub returns-in_ok-slot_lines-in-Ok : goal.returns-in_ok-slot_lines-in-Ok
returns-in_ok-slot_lines-in-Ok c =
    let printed : c.done.result ≡ done (slot_lines c.in-Ok.bytes.items) =
    c.done.ensures ∙ ap done (c.in_ok-slot_lines-in-Ok.ensures ∙ ap (λ (bytes : List ℕ). slot_lines bytes) c.deref.ensures.value) in
    straight_on c.in-Ok.bytes.items c.in-Ok.ensures.program c.in-Ok.ensures.same c.in-Ok.ensures.forward printed

pub returns-in-Err : goal.returns-in-Err
returns-in-Err c =
    mapped (λ (reply : Answer). reply ≡ refusal c.reason_of.result) (λ (reply : Answer). IsStraightReply c.args.words.now reply) c.refused.result c.refused.ensures
    (λ reply e. refused_by c.in-Err.error c.in-Err.ensures.refused (e ∙ ap (λ (reason : Reason). refusal reason) c.reason_of.ensures))
