use Rattle.std.proofs.Common.{ℕ, ◌*◌, ◌%◌, ◌^◌, subst}
use Rattle.semantics.specs.Value.{cut}
use Rattle.abstract_state.specs.Quantity.{Within}
use Rattle.abstract_state.proofs.Widths.{product_cut, count_small}
use Rattle.abstract_state.proofs.quantity.Quantity.shl_by.Goals as goal

pub returns-clause-contains : goal.returns-clause-contains
returns-clause-contains c = λ lengths x a f.
    let whole = c.finish.ensures.contains lengths (x * 2 ^ (c.args.count % 64) % 2 ^ 64) (c.shl.ensures.contains x a.bits) (c.shl-2.ensures.contains x a.range) (c.none.ensures.contains lengths _) in
    subst (λ (n : ℕ). Within c.finish.result lengths n) (product_cut c.args.width (x * 2 ^ c.args.count))
    (subst (λ (n : ℕ). Within c.finish.result lengths (cut c.args.width (x * 2 ^ n % 2 ^ 64))) (count_small c.args.width c.args.count c.requires) whole)
