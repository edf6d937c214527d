use Rattle.std.proofs.Common.{◌≡◌, ◌++◌, arith, ap, sym, ◌∙◌}
use Rattle.std.specs.Prelude.{string_bytes, codes}
use Rattle.std.specs.Fmt.{decimal}
use Rattle.std.proofs.lemmas.Grind.{common_steps}
use Rattle.hub_commands.specs.Answers.{Answer, failed}
use Rattle.hub_commands.specs.Programs.{fault_name, outcome_reply}
use Rattle.hub_commands.proofs.Replies.{mapped}
use Rattle.hub_commands.proofs.run.outcome_answer.Goals as goal

pub returns-in_ok-reason-in-Fault : goal.returns-in_ok-reason-in-Fault
returns-in_ok-reason-in-Fault c =
    let text : string_bytes c.in_ok-reason-in-Fault.reason ≡ codes "fault " ++ decimal c.in-Fault.slot ++ codes " " ++ fault_name c.in-Fault.kind =
    grind (arith, common_steps) in
    mapped (λ (reply : Answer). reply ≡ failed (string_bytes c.in_ok-reason-in-Fault.reason)) (λ (reply : Answer). reply ≡ outcome_reply c.args.outcome) c.failed.result c.failed.ensures
    (λ reply e. e ∙ ap failed text ∙ ap outcome_reply (sym c.in-Fault.is))
