use Rattle.bit_machine.proofs.Steps.{run_agrees, outcome_agrees}
use Rattle.bit_machine.proofs.runs_agree.Goals as goal

pub returns-clause-any : goal.returns-clause-any
returns-clause-any c = run_agrees

pub returns-clause-whole : goal.returns-clause-whole
returns-clause-whole c = outcome_agrees
