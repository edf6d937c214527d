use Rattle.std.proofs.Common.{◌≡◌, ◌≤◌, ℕ, ◌+◌, ◌-◌, ◌%◌, ◌^◌, subst, sym, ap, ◌∙◌, arith, rules}
use Rattle.abstract_state.specs.declared.region.Region.{Region}
use Rattle.abstract_state.specs.Lent.{base_of}
use Rattle.abstract_state.specs.Quantity.{Within}
use Rattle.abstract_state.proofs.Addresses.{near_fits, subtracts, lent_distance}
use Rattle.abstract_state.proofs.known.distance.Goals as goal

pub returns-in-Full-Sub-clause-sound : goal.returns-in-Full-Sub-clause-sound
returns-in-Full-Sub-clause-sound c = λ lengths x y a b.
    let same : c.args.a.region ≡ c.args.b.region = search rules in
    let most : b.0 ≤ c.args.b.offset.range.high = b.2.range.high in
    let near = near_fits c.args.a.region b.0 (omega (arith, c.args.b.near)) in
    let right = ap (λ (r : Region). base_of r + b.0) same ∙ sym b.1 in
    let base = base_of c.args.a.region in
    c.number.ensures.contains lengths _
    (subst (λ (n : ℕ). Within c.sub.result lengths n)
    (lent_distance c.args.a.region a.0 b.0 near ∙ ap (λ (n : ℕ). (n + (2 ^ 64 - (base + b.0) % 2 ^ 64)) % 2 ^ 64) (sym a.1) ∙ ap (λ (n : ℕ). (x + (2 ^ 64 - n % 2 ^ 64)) % 2 ^ 64) right ∙ sym (subtracts c.args.operation c.args.width x y c.in-Full-Sub.is-1 c.in-Full-Sub.is-0))
    (c.sub.ensures.contains lengths a.0 b.0 a.2 b.2 a.2.bits.fits b.2.bits.fits))
