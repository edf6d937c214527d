use Rattle.std.proofs.Common.{◌≡◌, ◌≤◌, length, arith, ap, ◌∙◌}
use Rattle.std.specs.Prelude.{string_bytes}
use Rattle.hub_commands.specs.Answers.{Answer, behind}
use Rattle.hub_commands.specs.Programs.{outcome_reply}
use Rattle.hub_commands.proofs.Replies.{mapped, span_traced}
use Rattle.hub_commands.proofs.trace.steps_answer.Goals as goal

pub returns : goal.returns
returns c =
    let utf8 = c.in-Ok.ensures.cases in
    let short : length c.in-Ok.text.now ≤ 131072 = omega arith in
    let run = c.in_ok-traced.traced in
    let steps = string_bytes run.text in
    let last : c.in_ok-outcome_answer.field-0 ≡ outcome_reply run.outcome = c.in_ok-outcome_answer.ensures in
    let said = mapped (λ (reply : Answer). reply ≡ behind steps c.in_ok-outcome_answer.field-0) (λ (reply : Answer). reply ≡ behind steps (outcome_reply run.outcome))
    c.behind.result c.behind.ensures (λ reply e. e ∙ ap (behind steps) last) in
    span_traced c.args.options.now c.args.words.now c.args.input.now c.in-Ok.text.now c.as_bytes.result.now c.link.result.now c.new-context.result c.facts.result c.step_limit.result run.outcome steps c.behind.result
    utf8.0 utf8.1 short c.facts.ensures.value c.new-context.ensures.value c.as_bytes.ensures.value c.link.ensures.value c.step_limit.ensures c.in_ok-traced.ensures.outcome c.in_ok-traced.ensures.text said
