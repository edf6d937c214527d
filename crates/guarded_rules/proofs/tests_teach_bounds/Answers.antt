use Rattle.guarded_rules.proofs.Bounds.{below_keeps, above_keeps, same_keeps, apart_keeps}
use Rattle.guarded_rules.proofs.tests_teach_bounds.Goals as goal

pub returns-clause-below : goal.returns-clause-below
returns-clause-below c = below_keeps

pub returns-clause-above : goal.returns-clause-above
returns-clause-above c = above_keeps

pub returns-clause-same : goal.returns-clause-same
returns-clause-same c = same_keeps

pub returns-clause-apart : goal.returns-clause-apart
returns-clause-apart c = apart_keeps
