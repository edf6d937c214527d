use Rattle.std.proofs.Common.{◌≡◌, ◌+◌, ◌-◌, ◌%◌, ◌^◌, bit_xor, arith, rules}
use Rattle.known_bits.proofs.Members.{Fit, fit, constant_is}
use Rattle.known_bits.proofs.Sums.{difference_maps, constants_made}
use Rattle.known_bits.proofs.Bits.sub.Goals as goal

pub returns-then-covers-clause-contains : goal.returns-then-covers-clause-contains
returns-then-covers-clause-contains c = difference_maps c.args.self c.args.other _ (search rules) (search rules)

pub returns-then-covers-clause-constants : goal.returns-then-covers-clause-constants
returns-then-covers-clause-constants c = λ left right.
    let fa : Fit c.args.self = fit c.args.self (search rules) (search rules) in
    let fb : Fit c.args.other = fit c.args.other (search rules) (search rules) in
    constants_made c.args.self c.args.other c.xor.result (λ x y. (x + (2 ^ 64 - y)) % 2 ^ 64) (λ x y. bit_xor x y) fa fb left right
    (difference_maps c.args.self c.args.other c.xor.result (search rules) (search rules)) (search rules)

pub returns-then-other-eq0-clause-contains : goal.returns-then-other-eq0-clause-contains
returns-then-other-eq0-clause-contains c = λ x y left right.
    let ex : x ≡ c.args.self.value = constant_is c.args.self x c.if-self-eq0.true left in
    let ey : y ≡ c.args.other.value = constant_is c.args.other y c.if-other-eq0.true right in
    (c.constant.ensures.contains _).1 (rw (ex, ey) (search rules))

pub returns-clause-contains : goal.returns-clause-contains
returns-clause-contains c = λ x y left right. c.unknown.ensures.contains _ (omega arith)
