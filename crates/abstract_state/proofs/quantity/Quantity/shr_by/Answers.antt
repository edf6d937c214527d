use Rattle.std.proofs.Common.{ℕ, ◌/◌, ◌%◌, ◌^◌, ◌<◌, subst, arith}
use Rattle.std.proofs.lemmas.Nat.{shr_le}
use Rattle.semantics.specs.Value.{bits_of, cut}
use Rattle.abstract_state.specs.Lent.{HasTails}
use Rattle.abstract_state.specs.Quantity.{Within}
use Rattle.abstract_state.proofs.Widths.{cut_same, count_small}
use Rattle.abstract_state.proofs.quantity.Quantity.shr_by.Goals as goal

pub returns-clause-contains : goal.returns-clause-contains
returns-clause-contains c = λ lengths x a f.
    let small : x / 2 ^ c.args.count < 2 ^ bits_of c.args.width = omega (arith, shr_le x c.args.count) in
    let whole = c.finish.ensures.contains lengths (x / 2 ^ (c.args.count % 64)) (c.shr.ensures.contains x a.bits) (c.shr-2.ensures.contains x a.range) (subst (λ (n : ℕ). HasTails c.tails_over.result lengths (x / n)) c.power.ensures.value (c.tails_over.ensures.contains lengths x a)) in
    subst (λ (n : ℕ). Within c.finish.result lengths n) (cut_same c.args.width (x / 2 ^ c.args.count) small)
    (subst (λ (n : ℕ). Within c.finish.result lengths (cut c.args.width (x / 2 ^ n))) (count_small c.args.width c.args.count c.requires) whole)
