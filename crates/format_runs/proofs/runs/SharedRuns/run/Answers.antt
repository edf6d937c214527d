use Rattle.std.proofs.Common.{◌∙◌, sym}
use Rattle.format_runs.proofs.Walking.{first_left, none_left}
use Rattle.format_runs.proofs.runs.SharedRuns.run.Goals as goal

pub returns-in_default : goal.returns-in_default
returns-in_default c = none_left c.args.self.now c.args.index (sym c.runs_from-runs.ensures.runs ∙ c.in_default.ensures.steps.0)

pub returns : goal.returns
returns c = record {
  is = first_left c.args.self.now c.next.new.self c.args.index c.in-Some.run'.now (sym c.runs_from-runs.ensures.runs ∙ c.in-Some.ensures.steps);
  starts = c.runs_from-runs.ensures.start;
}
