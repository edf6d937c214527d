use Rattle.std.proofs.Common.{◌≡◌, ◌+◌, ◌%◌, ◌^◌, ◌∙◌, arith}
use Rattle.abstract_state.proofs.KnownBits.{one_constant, bits_one, bits_value}
use Rattle.abstract_state.proofs.quantity.Quantity.sum_bits.Goals as goal

pub returns-in-Some-Some-clause-contains : goal.returns-in-Some-Some-clause-contains
returns-in-Some-Some-clause-contains c = λ lengths x y a b.
    let ex : x ≡ c.in-Some-Some.a = c.in-Some-Some.ensures.contains lengths x a in
    let ey : y ≡ c.in-Some-Some.b = c.in-Some-Some.ensures'.contains lengths y b in
    (c.constant.ensures.contains _).1 (rw (ex, ey))

pub returns-in-Some-Some-clause-constants : goal.returns-in-Some-Some-clause-constants
returns-in-Some-Some-clause-constants c = λ region m n t u a b small.
    let left = c.in-Some-Some.ensures.ends in
    let right = c.in-Some-Some.ensures'.ends in
    let value : (c.in-Some-Some.a + c.in-Some-Some.b) % 2 ^ 64 ≡ m + n = omega (arith, left.0, right.0, a.0, b.0) in
    one_constant c.constant.result (m + n) small (c.constant.ensures.is.0 ∙ value, c.constant.ensures.is.1)

pub returns-then-greatest-eq0-clause-constants : goal.returns-then-greatest-eq0-clause-constants
returns-then-greatest-eq0-clause-constants c = λ region m n t u a b small.
    let is = c.add.ensures.constants (bits_one c.args.self.bits m a.3) (bits_one c.args.other.bits n b.3) in
    let left = bits_value c.args.self.bits m a.3 in
    let right = bits_value c.args.other.bits n b.3 in
    one_constant c.add.result (m + n) small (is.0 ∙ omega (arith, left, right), is.1)

pub returns-in_default-clause-contains : goal.returns-in_default-clause-contains
returns-in_default-clause-contains c = λ lengths x y a b. c.unknown.ensures.contains _ (omega arith)
