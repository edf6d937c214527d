use Rattle.std.proofs.Common.{◌≡◌, rules, sym, ◌∙◌}
use Rattle.filter_cases.specs.Cases.{CaseForm, case}
use Rattle.filter_cases.proofs.cases.take_line.Goals as goal

pub returns : goal.returns
returns c =
    let is : (c.in-Some.case.line ≡ c.args.number) × CaseForm c.in-Some.case c.args.line.now = search rules in
    case c.in-Some.case (sym c.is_left_out.ensures ∙ c.if-is_left_out.false) is.1 is.0 c.in_ok-push.ensures.items
