use Rattle.std.proofs.Common.{◌≡◌, ◌≤◌, ◌<◌, ◌*◌, ◌/◌, ◌%◌, ◌^◌, ℕ, refl, sym, subst, arith}
use Rattle.semantics.specs.Value.{bits_of}
use Rattle.abstract_state.specs.Quantity.{Contains, Within}
use Rattle.abstract_state.proofs.Options.{at_some, at_none}
use Rattle.abstract_state.proofs.Widths.{arsh_is, arsh_fits}
use Rattle.abstract_state.proofs.quantity.Quantity.arsh.Goals as goal

pub returns-in_err-count-clause-contains : goal.returns-in_err-count-clause-contains
returns-in_err-count-clause-contains c = λ lengths x y a b fa fb.
    absurd (at_none (λ q. Contains q lengths (y % bits_of c.args.width)) _ c.in_err-count.was (c.count.ensures.contains lengths y b fb))

pub returns-then-self-half-clause-contains : goal.returns-then-self-half-clause-contains
returns-then-self-half-clause-contains c = λ lengths x y a b fa fb.
    let count = at_some (λ q. Contains q lengths (y % bits_of c.args.width)) _ _ c.in_ok-count.was (c.count.ensures.contains lengths y b fb) in
    let is : y % bits_of c.args.width ≡ c.in-Some.n = c.in-Some.ensures.contains lengths _ count in
    let most : x ≤ c.args.self.range.high = a.range.high in
    let whole : 2 * c.half.result ≡ 2 ^ bits_of c.args.width = c.half.ensures in
    let positive : 2 * x < 2 ^ bits_of c.args.width = omega arith in
    subst (λ (n : ℕ). Within c.shr_by.result lengths n) (sym (arsh_is c.args.width x (y % bits_of c.args.width) positive))
    (subst (λ (n : ℕ). Within c.shr_by.result lengths (x / 2 ^ n)) (sym is) (c.shr_by.ensures.contains lengths x a fa))

pub returns-in_default-clause-contains : goal.returns-in_default-clause-contains
returns-in_default-clause-contains c = λ lengths x y a b fa fb.
    (_, refl, c.unknown.ensures.contains lengths _ (arsh_fits c.args.width x (y % bits_of c.args.width) fa))

pub returns-else-self-half-clause-contains : goal.returns-else-self-half-clause-contains
returns-else-self-half-clause-contains c = λ lengths x y a b fa fb.
    (_, refl, c.unknown-else-self-half.ensures.contains lengths _ (arsh_fits c.args.width x (y % bits_of c.args.width) fa))
