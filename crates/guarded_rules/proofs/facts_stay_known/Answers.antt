use Rattle.guarded_rules.proofs.Steps.{step_keeps}
use Rattle.guarded_rules.proofs.Edges.{edge_keeps}
use Rattle.guarded_rules.proofs.Telling.{copies_entail}
use Rattle.guarded_rules.proofs.Situations.{joined_entails}
use Rattle.guarded_rules.proofs.facts_stay_known.Goals as goal

pub returns-clause-steps : goal.returns-clause-steps
returns-clause-steps c = step_keeps

pub returns-clause-edges : goal.returns-clause-edges
returns-clause-edges c = edge_keeps

pub returns-clause-copies : goal.returns-clause-copies
returns-clause-copies c = copies_entail

pub returns-clause-joins : goal.returns-clause-joins
returns-clause-joins c = joined_entails
