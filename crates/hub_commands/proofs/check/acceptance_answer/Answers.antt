use Rattle.std.proofs.Common.{◌≡◌, Some, subst}
use Rattle.bpf_words.specs.Words.{program_of}
use Rattle.filters.specs.declared.refusal.FilterError.TheVariants.{Program as OfProgram}
use Rattle.refusals.specs.declared.reason.Reason.TheVariants.{Unverified}
use Rattle.hub_commands.specs.Answers.{Answer}
use Rattle.hub_commands.specs.Reasons.{refusal}
use Rattle.verifier.specs.Judged.{Rejects, IsJudged}
use Rattle.hub_commands.specs.Programs.{IsAcceptanceReply, rejected}
use Rattle.hub_commands.proofs.Replies.{mapped}
use Rattle.hub_commands.proofs.check.acceptance_answer.Goals as goal

pub returns-in-Some : goal.returns-in-Some
returns-in-Some c = λ profile given.
    let program = program_of c.args.words.now in
    let judged : c.args.rejection ≡ Some c.in-Some.error = c.in-Some.is in
    let why : Rejects profile program c.in-Some.error = subst (IsJudged profile program) judged given in
    mapped (λ (reply : Answer). reply ≡ refusal (Unverified (OfProgram c.in-Some.error))) (IsAcceptanceReply profile c.args.words.now) c.refused.result c.refused.ensures
    (λ reply e. rejected c.in-Some.error why e)
