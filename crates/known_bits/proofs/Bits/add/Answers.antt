use Rattle.std.proofs.Common.{◌≡◌, ◌+◌, ◌%◌, ◌^◌, bit_or, arith, rules}
use Rattle.known_bits.proofs.Members.{Fit, fit, constant_is}
use Rattle.known_bits.proofs.Sums.{sum_maps, constants_made}
use Rattle.known_bits.proofs.Bits.add.Goals as goal

pub returns-then-is_apart-clause-contains : goal.returns-then-is_apart-clause-contains
returns-then-is_apart-clause-contains c = sum_maps c.args.self c.args.other _ (search rules) (search rules)

pub returns-then-is_apart-clause-constants : goal.returns-then-is_apart-clause-constants
returns-then-is_apart-clause-constants c = λ left right.
    let fa : Fit c.args.self = fit c.args.self (search rules) (search rules) in
    let fb : Fit c.args.other = fit c.args.other (search rules) (search rules) in
    constants_made c.args.self c.args.other c.or.result (λ x y. (x + y) % 2 ^ 64) (λ x y. bit_or x y) fa fb left right
    (sum_maps c.args.self c.args.other c.or.result (search rules) (search rules)) (search rules)

pub returns-then-other-eq0-clause-contains : goal.returns-then-other-eq0-clause-contains
returns-then-other-eq0-clause-contains c = λ x y left right.
    let ex : x ≡ c.args.self.value = constant_is c.args.self x c.if-self-eq0.true left in
    let ey : y ≡ c.args.other.value = constant_is c.args.other y c.if-other-eq0.true right in
    (c.constant.ensures.contains _).1 (rw (ex, ey) (search rules))

pub returns-clause-contains : goal.returns-clause-contains
returns-clause-contains c = λ x y left right. c.unknown.ensures.contains _ (omega arith)
