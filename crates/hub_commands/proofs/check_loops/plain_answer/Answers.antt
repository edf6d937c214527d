use Rattle.std.proofs.Common.{◌≡◌, subst}
use Rattle.bpf_words.specs.Words.{program_of}
use Rattle.refusals.specs.declared.reason.Reason.TheVariants.{Unverified}
use Rattle.hub_commands.specs.Answers.{Answer}
use Rattle.hub_commands.specs.Loops.{IsJudgment, IsLoopsReply, rejected}
use Rattle.hub_commands.specs.Reasons.{refusal}
use Rattle.hub_commands.proofs.Replies.{mapped}
use Rattle.hub_commands.proofs.check_loops.plain_answer.Goals as goal

pub returns-in-Err : goal.returns-in-Err
returns-in-Err c =
    let why = subst (IsJudgment (program_of c.args.words.now)) c.in-Err.is c.requires in
    mapped (λ (reply : Answer). reply ≡ refusal (Unverified c.in-Err.error)) (IsLoopsReply c.args.words.now) c.refused.result c.refused.ensures
    (λ reply e. rejected c.in-Err.error why e)
