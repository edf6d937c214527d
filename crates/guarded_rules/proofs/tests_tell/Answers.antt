use Rattle.guarded_rules.proofs.Tests.{told_tells, told_never}
use Rattle.guarded_rules.proofs.tests_tell.Goals as goal

pub returns-clause-tells : goal.returns-clause-tells
returns-clause-tells c = told_tells

pub returns-clause-excludes : goal.returns-clause-excludes
returns-clause-excludes c = told_never
