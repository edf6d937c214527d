use Rattle.std.proofs.Common.{◌+◌, ◌%◌, ◌^◌, ℕ, Option, None, subst, ap, ◌∙◌, arith}
use Rattle.abstract_state.specs.Quantity.{Within}
use Rattle.abstract_state.proofs.Widths.{tails_lower, sum_cut}
use Rattle.abstract_state.proofs.Exact.{one_stays}
use Rattle.abstract_state.specs.Exact.{tail_after}
use Rattle.abstract_state.proofs.quantity.Quantity.plus.Goals as goal

pub returns-clause-contains : goal.returns-clause-contains
returns-clause-contains c = λ lengths x y a b fa fb.
    let tails = c.sum.ensures.contains lengths x y a.tails a.range.high b.tails b.range.high in
    subst (λ (n : ℕ). Within c.finish.result lengths n) (sum_cut c.args.width x y)
    (c.finish.ensures.contains lengths ((x + y) % 2 ^ 64) (c.sum_bits.ensures.contains lengths x y a b) (c.add.ensures.contains x y a.range b.range) (tails_lower _ lengths (x + y) _ tails (omega arith)))

pub returns-clause-constants : goal.returns-clause-constants
returns-clause-constants c = λ region wide m n t a b small.
    let ends = c.add.ensures.ends (omega (arith, a.1, b.1)) in
    let tail = c.sum.ensures.alone region b.2 ∙ ap (λ (o : Option ℕ). tail_after o c.args.other.range.high) a.2 ∙ ap (λ (h : ℕ). tail_after t h) b.1 in
    one_stays region c.finish.result c.sum_bits.result c.add.result c.sum.result (m + n) (tail_after t n) (c.finish.ensures.narrows wide) (c.finish.ensures.bits wide)
    (omega (arith, ends.0, a.0, b.0)) (omega (arith, ends.1, a.1, b.1)) tail (c.sum_bits.ensures.constants region m n t None a b small)
