use Rattle.std.proofs.Common.{IfOk, sym, subst}
use Rattle.hub_requests.specs.declared.Shown.{Shown}
use Rattle.hub_commands.specs.Answers.{Answer}
use Rattle.hub_commands.specs.Programs.{IsShownReply}
use Rattle.hub_commands.proofs.run.shown_answer.Goals as goal

pub returns-in-Outcome : goal.returns-in-Outcome
returns-in-Outcome c =
    subst (λ (s : Shown). IfOk c.span_answer.result (λ (answer : Answer). IsShownReply s c.args.options.now c.args.input.now c.args.words.now answer))
    (sym c.in-Outcome.is) c.span_answer.ensures

pub returns-in-Steps : goal.returns-in-Steps
returns-in-Steps c =
    subst (λ (s : Shown). IfOk c.steps_answer.result (λ (answer : Answer). IsShownReply s c.args.options.now c.args.input.now c.args.words.now answer))
    (sym c.in-Steps.is) c.steps_answer.ensures
