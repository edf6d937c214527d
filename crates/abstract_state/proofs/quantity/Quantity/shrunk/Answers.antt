use Rattle.std.proofs.Common.{ℕ, ◌≤◌, ◌<◌, ◌^◌, subst, arith}
use Rattle.semantics.specs.Value.{bits_of}
use Rattle.abstract_state.specs.Quantity.{Within}
use Rattle.abstract_state.proofs.Widths.{cut_same, fits_word, tails_lower}
use Rattle.abstract_state.proofs.quantity.Quantity.shrunk.Goals as goal

pub returns-clause-contains : goal.returns-clause-contains
returns-clause-contains c = λ lengths x z a f below.
    let small : z < 2 ^ bits_of c.args.width = omega arith in
    let most : x ≤ c.args.self.range.high = a.range.high in
    subst (λ (n : ℕ). Within c.finish.result lengths n) (cut_same c.args.width z small)
    (c.finish.ensures.contains lengths z (c.unknown.ensures.contains _ (fits_word c.args.width _ small)) (record { low = omega arith; high = omega arith }) (tails_lower _ lengths x _ a.tails below))
