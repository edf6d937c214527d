use Rattle.std.proofs.Common.{◌≡◌, ◌*◌, ◌%◌, ◌^◌, ℕ, refl, sym, subst}
use Rattle.semantics.specs.Value.{bits_of}
use Rattle.abstract_state.specs.Quantity.{Contains, Within}
use Rattle.abstract_state.proofs.Options.{at_some, at_none}
use Rattle.abstract_state.proofs.Widths.{cut_fits}
use Rattle.abstract_state.proofs.quantity.Quantity.shl.Goals as goal

pub returns-in_err-count-clause-contains : goal.returns-in_err-count-clause-contains
returns-in_err-count-clause-contains c = λ lengths x y a b fa fb.
    absurd (at_none (λ q. Contains q lengths (y % bits_of c.args.width)) _ c.in_err-count.was (c.count.ensures.contains lengths y b fb))

pub returns-clause-contains : goal.returns-clause-contains
returns-clause-contains c = λ lengths x y a b fa fb.
    let count = at_some (λ q. Contains q lengths (y % bits_of c.args.width)) _ _ c.in_ok-count.was (c.count.ensures.contains lengths y b fb) in
    let is : y % bits_of c.args.width ≡ c.in-Some.n = c.in-Some.ensures.contains lengths _ count in
    subst (λ (n : ℕ). Within c.shl_by.result lengths (x * 2 ^ n % 2 ^ bits_of c.args.width)) (sym is) (c.shl_by.ensures.contains lengths x a fa)

pub returns-in_default-clause-contains : goal.returns-in_default-clause-contains
returns-in_default-clause-contains c = λ lengths x y a b fa fb.
    (_, refl, c.unknown.ensures.contains lengths _ (cut_fits c.args.width (x * 2 ^ (y % bits_of c.args.width))))
