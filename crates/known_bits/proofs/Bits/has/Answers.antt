use Rattle.std.proofs.Common.{◌<◌, ◌^◌, ℕ, ap, arith, rules, eq-eqb, eqb-true}
use Rattle.known_bits.specs.Bits.{bit}
use Rattle.known_bits.proofs.BitLaws.{same_below, word_bits}
use Rattle.known_bits.proofs.Members.{Fit, fit, has_contains, contains_has}
use Rattle.known_bits.proofs.Bits.has.Goals as goal

pub returns : goal.returns
returns c =
    let f : Fit c.args.self = fit c.args.self (search rules) (search rules) in
    let small : c.args.x < 2 ^ 64 = search rules in (
      λ t. has_contains c.args.self c.args.x f small (λ k below. let e = ap (λ (n : ℕ). bit n k) (eqb-true _ _ t) in grind (arith, word_bits)),
      λ inside. eq-eqb _ _ (same_below _ _ (grind (arith, word_bits)) (grind (arith, word_bits)) (λ k below. let e = contains_has c.args.self c.args.x inside k in grind (arith, word_bits))),
    )
