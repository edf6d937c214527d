use Rattle.estimate_order.proofs.Numbers.{same_within}
use Rattle.estimate_order.proofs.Inside.{same_first, same_second}
use Rattle.estimate_order.proofs.tellings_are_ordered.Goals as goal

pub returns-clause-order : goal.returns-clause-order
returns-clause-order c = same_within

pub returns-clause-first : goal.returns-clause-first
returns-clause-first c = λ x y xn yn. same_first x y xn.words yn.words xn.range.fits

pub returns-clause-second : goal.returns-clause-second
returns-clause-second c = λ x y xn yn. same_second x y xn.words yn.words xn.range.fits
