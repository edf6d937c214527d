use Rattle.std.proofs.Common.{ap}
use Rattle.abstract_state.proofs.Joins.{held, joins_held, joins_from}
use Rattle.abstract_state.proofs.join.join_register.Goals as goal

pub returns-in-Some-clause-kinds : goal.returns-in-Some-clause-kinds
returns-in-Some-clause-kinds c =
    joins_from _ _ _ _ _ c.join.result c.in-Set-Set.is-0 c.in-Set-Set.is-1 (ap held c.in-Some.is)
    (joins_held _ _ c.join.result c.join.ensures.numbers c.join.ensures.values c.join.ensures.lent c.join.ensures.context c.join.ensures.stack)

pub returns-in-None-clause-kinds : goal.returns-in-None-clause-kinds
returns-in-None-clause-kinds c =
    joins_from _ _ _ _ _ c.join.result c.in-Set-Set.is-0 c.in-Set-Set.is-1 (ap held c.in-None.is)
    (joins_held _ _ c.join.result c.join.ensures.numbers c.join.ensures.values c.join.ensures.lent c.join.ensures.context c.join.ensures.stack)
