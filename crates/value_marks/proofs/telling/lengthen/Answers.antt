use Rattle.std.proofs.Common.{refl}
use Rattle.abstract_state.specs.State.{IsLong}
use Rattle.abstract_state.proofs.Options.{at_some, at_none}
use Rattle.value_marks.proofs.telling.lengthen.Goals as goal

pub returns-in_default-clause-sound : goal.returns-in_default-clause-sound
returns-in_default-clause-sound c = λ lengths s x held q.
    absurd (at_none (λ b. IsLong b lengths) _ c.in_default.is (c.raise.ensures.sound lengths x held.bounds q))

pub returns-clause-sound : goal.returns-clause-sound
returns-clause-sound c = λ lengths s x held q.
    let bounds = at_some (λ b. IsLong b lengths) _ _ c.in-Some.is (c.raise.ensures.sound lengths x held.bounds q) in
    (_, refl, record { eleven = held.eleven; long = held.long; bounds = bounds; registers = held.registers; stack = held.stack })
