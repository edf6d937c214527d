use Rattle.std.proofs.Common.{◌≤◌, length, arith}
use Rattle.hub_commands.proofs.Replies.{span_ran}
use Rattle.hub_commands.proofs.run.span_answer.Goals as goal

pub returns : goal.returns
returns c =
    let utf8 = c.in-Ok.ensures.cases in
    let short : length c.in-Ok.text.now ≤ 131072 = omega arith in
    span_ran c.args.options.now c.args.words.now c.args.input.now c.in-Ok.text.now c.as_bytes.result.now c.link.result.now c.new-context.result c.facts.result c.step_limit.result c.run_steps.result c.outcome_answer.result
    utf8.0 utf8.1 short c.facts.ensures.value c.new-context.ensures.value c.as_bytes.ensures.value c.link.ensures.value c.step_limit.ensures c.run_steps.ensures c.outcome_answer.ensures
