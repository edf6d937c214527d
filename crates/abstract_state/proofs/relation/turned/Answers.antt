use Rattle.std.proofs.Common.{refl}
use Rattle.abstract_state.proofs.Sides.{at_left, at_right}
use Rattle.abstract_state.proofs.relation.turned.Goals as goal

pub returns-clause-contains : goal.returns-clause-contains
returns-clause-contains c = λ lengths m n w. (_, refl, (at_right _ _ lengths m n c.in-Some.is w), (at_left _ _ lengths m n c.in-Some.is w))
