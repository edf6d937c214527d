use Rattle.std.proofs.Common.{◌≡◌, ℕ, List}
use Rattle.refusals.specs.declared.reason.Reason.TheVariants.{BadHex, Words}
use Rattle.hub_commands.specs.Answers.{Answer}
use Rattle.hub_commands.specs.Digits.{AreDigits}
use Rattle.hub_commands.specs.Hexadecimal.{without_blanks}
use Rattle.hub_commands.specs.Reasons.{refusal}
use Rattle.hub_commands.specs.Programs.{no_hex}
use Rattle.hub_commands.specs.Explained.{IsExplainedReply, IsExplainReply}
use Rattle.hub_commands.proofs.Replies.{mapped, first_refused, first_answered}
use Rattle.hub_commands.proofs.explain.explain_answer.Goals as goal

pub returns-in_default : goal.returns-in_default
unfolding IsExplainReply
returns-in_default c =
    mapped (λ (reply : Answer). reply ≡ refusal BadHex)
    (λ (reply : Answer). (input : List ℕ) → AreDigits (without_blanks input) c.args.digits.now → IsExplainReply c.args.is_whole c.args.profile input reply)
    c.refused.result c.refused.ensures
    (λ reply e input are. let none = (rw c.in_default.is at c.in_ok-bytes.ensures) (without_blanks input) are in no_hex none.0 none.1 e)

pub returns-in-Ok : goal.returns-in-Ok
unfolding IsExplainReply
returns-in-Ok c =
    let right = c.in-Ok.ensures.value in
    mapped (IsExplainedReply c.args.is_whole c.args.profile c.in-Ok.words)
    (λ (reply : Answer). (input : List ℕ) → AreDigits (without_blanks input) c.args.digits.now → IsExplainReply c.args.is_whole c.args.profile input reply)
    c.explained_answer.result c.explained_answer.ensures
    (λ reply answered input are. let stand = (rw c.in-Some.is at c.in_ok-bytes.ensures) (without_blanks input) are in
    first_answered (IsExplainedReply c.args.is_whole c.args.profile) (without_blanks input) c.in-Some.bytes.items c.deref.result.now reply stand
    c.deref.ensures.value right.1 (rw right.0 at answered))

pub returns : goal.returns
unfolding IsExplainReply
returns c =
    mapped (λ (reply : Answer). reply ≡ refusal (Words c.in-Err.error))
    (λ (reply : Answer). (input : List ℕ) → AreDigits (without_blanks input) c.args.digits.now → IsExplainReply c.args.is_whole c.args.profile input reply)
    c.refused-in-Err.result c.refused-in-Err.ensures
    (λ reply e input are. let stand = (rw c.in-Some.is at c.in_ok-bytes.ensures) (without_blanks input) are in
    first_refused (IsExplainedReply c.args.is_whole c.args.profile) (without_blanks input) c.in-Some.bytes.items c.deref.result.now c.in-Err.error reply stand
    c.deref.ensures.value c.in-Err.ensures.value e)
