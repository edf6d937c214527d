use Rattle.std.proofs.Common.{◌≤◌, ℕ, refl, arith}
use Rattle.abstract_state.specs.declared.region.Region.{Region}
use Rattle.abstract_state.specs.Lent.{bound_of}
use Rattle.abstract_state.specs.Relation.{EndsFrom}
use Rattle.abstract_state.specs.State.{IsLong}
use Rattle.abstract_state.proofs.Options.{at_some, at_none}
use Rattle.abstract_state.proofs.Regions.{each}
use Rattle.abstract_state.proofs.state.AbsState.lengthen.Goals as goal

pub returns-in_default-clause-sound : goal.returns-in_default-clause-sound
returns-in_default-clause-sound c = λ lengths s x held q.
    absurd (at_none (λ b. IsLong b lengths) _ c.in_default.is (c.raise.ensures.sound lengths x held.bounds q))

pub returns-clause-sound : goal.returns-clause-sound
returns-clause-sound c = λ lengths s x held q.
    let bounds = at_some (λ b. IsLong b lengths) _ _ c.in-Some.is (c.raise.ensures.sound lengths x held.bounds q) in
    (_, refl, record { eleven = held.eleven; long = held.long; bounds = bounds; registers = held.registers; stack = held.stack })

pub returns-clause-raised : goal.returns-clause-raised
returns-clause-raised c = each (λ (r : Region). (n : ℕ) → EndsFrom r n c.args.quantity → n ≤ bound_of c.in-Some.bounds r)
    (λ n e. let far = c.in-Some.ensures.text e.1.0 e.1.1 in let low = e.0 in let long : n ≤ c.in-Some.bounds.text = omega arith in long)
    (λ n e. let far = c.in-Some.ensures.link e.1.0 e.1.1 in let low = e.0 in let long : n ≤ c.in-Some.bounds.link = omega arith in long)

pub returns-clause-grows : goal.returns-clause-grows
returns-clause-grows c = each (λ (r : Region). bound_of c.args.self.now.bounds r ≤ bound_of c.in-Some.bounds r) c.in-Some.ensures.grows.0 c.in-Some.ensures.grows.1
