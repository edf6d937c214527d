use Rattle.estimate_order.proofs.Cut.{product_within, remaining_within}
use Rattle.estimate_order.proofs.Shifts.{divided_within}
use Rattle.estimate_order.proofs.products_are_ordered.Goals as goal

pub returns-clause-product : goal.returns-clause-product
returns-clause-product c = product_within

pub returns-clause-quotient : goal.returns-clause-quotient
returns-clause-quotient c = divided_within

pub returns-clause-remainder : goal.returns-clause-remainder
returns-clause-remainder c = remaining_within
