use Rattle.std.proofs.Common.{◌-◌, refl, arith, rules}
use Rattle.abstract_state.specs.Lent.{InRange, limit_of}
use Rattle.abstract_state.specs.Quantity.{InBits}
use Rattle.abstract_state.proofs.Options.{at_some, at_none, some_is}
use Rattle.known_bits.proofs.Members.{Fit, fit}
use Rattle.abstract_state.proofs.KnownBits.{known_within, between_ends}
use Rattle.abstract_state.proofs.quantity.Quantity.normal.Goals as goal

pub returns-in_err-known-clause-contains : goal.returns-in_err-known-clause-contains
returns-in_err-known-clause-contains c = λ lengths x b r t.
    let first = at_some (λ q. InRange q x) _ _ c.in_ok-first.was (c.narrow.ensures.contains lengths x b r t) in
    let high = c.between-high_bits.ensures.contains x first.low first.high in
    absurd (at_none (λ q. InBits q x) _ c.in_err-known.was (c.meet.ensures.contains x b high))

pub returns-in_err-second-clause-contains : goal.returns-in_err-second-clause-contains
returns-in_err-second-clause-contains c = λ lengths x b r t.
    let first = at_some (λ q. InRange q x) _ _ c.in_ok-first.was (c.narrow.ensures.contains lengths x b r t) in
    let high = c.between-high_bits.ensures.contains x first.low first.high in
    let known = at_some (λ q. InBits q x) _ _ c.in_ok-known.was (c.meet.ensures.contains x b high) in
    absurd (at_none (λ q. InRange q x) _ c.in_err-second.was (c.narrow-2.ensures.contains lengths x known first t))

pub returns-clause-contains : goal.returns-clause-contains
returns-clause-contains c = λ lengths x b r t.
    let first = at_some (λ q. InRange q x) _ _ c.in_ok-first.was (c.narrow.ensures.contains lengths x b r t) in
    let high = c.between-high_bits.ensures.contains x first.low first.high in
    let known = at_some (λ q. InBits q x) _ _ c.in_ok-known.was (c.meet.ensures.contains x b high) in
    let second = at_some (λ q. InRange q x) _ _ c.in_ok-second.was (c.narrow-2.ensures.contains lengths x known first t) in
    (_, refl, record { bits = assumption; range = second; tails = t })

pub returns-in_err-first-clause-contains : goal.returns-in_err-first-clause-contains
returns-in_err-first-clause-contains c = λ lengths x b r t.
    absurd (at_none (λ q. InRange q x) _ c.in_err-first.was (c.narrow.ensures.contains lengths x b r t))

pub returns-clause-bits : goal.returns-clause-bits
returns-clause-bits c =
    let f : Fit c.in_ok-known.known = fit c.in_ok-known.known (search rules) (search rules) in
    known_within c.args.bits c.in_ok-known.known f (λ x h. (some_is _ _ _ c.in_ok-known.was c.meet.ensures.only x h).0)

pub returns-clause-high_bits : goal.returns-clause-high_bits
returns-clause-high_bits c = λ region t tail k e.
    let f : Fit c.in_ok-known.known = fit c.in_ok-known.known (search rules) (search rules) in
    let within = some_is _ _ _ c.in_ok-first.was c.narrow.ensures.within in
    let limit = some_is _ _ _ c.in_ok-first.was (c.narrow.ensures.limits region t tail) in
    let same = between_ends c.args.range.low c.in_ok-first.first.low c.in_ok-first.first.high (limit_of region - t) k within.0 c.in_ok-first.first.ordered (omega arith) e in
    (known_within c.between-high_bits.result c.in_ok-known.known f (λ x h. (some_is _ _ _ c.in_ok-known.was c.meet.ensures.only x h).1) k (c.between-high_bits.ensures.knows k same)).0

pub returns-clause-lies : goal.returns-clause-lies
returns-clause-lies c = some_is _ _ _ c.in_ok-second.was c.narrow-2.ensures.bits
