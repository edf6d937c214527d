use Rattle.std.proofs.Common.{◌≤◌, refl, arith, ◌≡◌}
use Rattle.abstract_state.specs.Quantity.{Contains}
use Rattle.abstract_state.proofs.Options.{at_some}
use Rattle.abstract_state.proofs.Addresses.{near_is}
use Rattle.abstract_state.proofs.known.lent.Goals as goal

pub returns-clause-sound : goal.returns-clause-sound
returns-clause-sound c = λ lengths x w.
    let offset = at_some (λ q. Contains q lengths x) _ _ c.in-Some.is w in
    let most : x ≤ c.in-Some.offset.range.high = offset.range.high in
    (_, refl, (x, near_is c.args.region x (omega arith), offset))

pub returns-clause-some : goal.returns-clause-some
returns-clause-some c = λ q is near. let same : c.in-Some.offset ≡ q = cc in (_, refl, refl, same)
