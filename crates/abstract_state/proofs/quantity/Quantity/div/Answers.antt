use Rattle.std.proofs.Common.{ℕ, ◌<◌, ◌^◌, subst, arith}
use Rattle.intervals.specs.Range.{quotient}
use Rattle.semantics.specs.Value.{bits_of}
use Rattle.abstract_state.specs.Quantity.{Within}
use Rattle.abstract_state.proofs.Widths.{cut_same, fits_word, quotient_le}
use Rattle.abstract_state.proofs.quantity.Quantity.div.Goals as goal

pub returns-clause-contains : goal.returns-clause-contains
returns-clause-contains c = λ lengths x y a b fa fb.
    let below = quotient_le x y in
    let small : quotient x y < 2 ^ bits_of c.args.width = omega arith in
    subst (λ (n : ℕ). Within c.finish.result lengths n) (cut_same c.args.width (quotient x y) small)
    (c.finish.ensures.contains lengths (quotient x y) (c.unknown.ensures.contains _ (fits_word c.args.width _ small)) (c.div.ensures.contains x y a.range b.range) (c.quotient_tails.ensures.contains lengths x y a b))
