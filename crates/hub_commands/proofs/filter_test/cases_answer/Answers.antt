use Rattle.std.proofs.Common.{◌≡◌, ◌∙◌}
use Rattle.std.specs.Prelude.{map}
use Rattle.filter_cases.specs.Cases.{AreCases, StopsAt}
use Rattle.hub_commands.specs.Tested.{tried_on}
use Rattle.hub_commands.proofs.Trying.{tested_ok, unread_ok}
use Rattle.hub_commands.proofs.filter_test.cases_answer.Goals as goal

pub returns-in_ok-all-in-Ok : goal.returns-in_ok-all-in-Ok
returns-in_ok-all-in-Ok c =
    let are : AreCases c.args.input.now c.in-Ok.cases.items = rw c.in-Ok.is at c.in_ok-cases.ensures in
    let all : c.deref.result.now ≡ map (tried_on c.args.filter.now) c.in-Ok.cases.items = c.deref.ensures.value ∙ c.in_ok-all-in-Ok.ensures in
    tested_ok c.report_answer.result c.args.form c.args.input.now c.args.words.now c.in-Ok.cases.items c.deref.result.now c.args.filter.now are all c.requires c.report_answer.ensures

pub returns-in-Err : goal.returns-in-Err
returns-in-Err c =
    let stops : StopsAt c.args.input.now c.in-Err.line = rw c.in-Err.is at c.in_ok-cases.ensures in
    unread_ok c.refused.result c.args.form c.args.input.now c.args.words.now c.in-Err.line stops c.refused.ensures
