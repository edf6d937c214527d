use Rattle.situation_order.proofs.Contents.{computed_within, moved_within}
use Rattle.situation_order.proofs.operations_are_ordered.Goals as goal

pub returns-clause-computed : goal.returns-clause-computed
returns-clause-computed c = computed_within

pub returns-clause-moved : goal.returns-clause-moved
returns-clause-moved c = moved_within
