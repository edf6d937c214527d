use Rattle.std.proofs.Common.{refl}
use Rattle.abstract_state.proofs.Sides.{at_left, at_right, at_neither}
use Rattle.abstract_state.proofs.branch.numbers_on.Goals as goal

pub returns-in_default-clause-sound : goal.returns-in_default-clause-sound
returns-in_default-clause-sound c = λ lengths m n a b h. absurd (at_neither _ lengths m n c.in_default.is (c.edge.ensures.contains lengths m n a b h))

pub returns-clause-sound : goal.returns-clause-sound
returns-clause-sound c = λ lengths m n a b h.
    let w = c.edge.ensures.contains lengths m n a b h in
    (_, refl, at_left _ _ lengths m n c.in-Some.is w, at_right _ _ lengths m n c.in-Some.is w)
