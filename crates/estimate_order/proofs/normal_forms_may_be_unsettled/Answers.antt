use Rattle.estimate_order.proofs.Settled.{three_is_normal, three_not_settled}
use Rattle.estimate_order.proofs.normal_forms_may_be_unsettled.Goals as goal

pub returns-clause-normal : goal.returns-clause-normal
returns-clause-normal c = three_is_normal

pub returns-clause-unsettled : goal.returns-clause-unsettled
returns-clause-unsettled c = three_not_settled
