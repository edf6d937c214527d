use Rattle.std.proofs.Common.{ℕ, ap, arith, rules, eq-eqb, eqb-true}
use Rattle.known_bits.specs.Bits.{bit}
use Rattle.known_bits.proofs.BitLaws.{bit-zero, same_below, word_bits}
use Rattle.known_bits.proofs.Members.{Fit, fit}
use Rattle.known_bits.proofs.Sums.{covers_at, covers_from}
use Rattle.known_bits.proofs.Bits.covers.Goals as goal

pub returns : goal.returns
returns c =
    let fa : Fit c.args.self = fit c.args.self (search rules) (search rules) in
    let fb : Fit c.args.other = fit c.args.other (search rules) (search rules) in (
      λ t. covers_from c.args.self c.args.other fa fb (λ k below. let e = ap (λ (n : ℕ). bit n k) (eqb-true _ _ t) in grind (arith, word_bits, bit-zero)),
      λ h. eq-eqb _ _ (same_below _ _ (grind (arith, word_bits)) (grind (arith, word_bits)) (λ k below. let e = covers_at c.args.self c.args.other h k in grind (arith, word_bits, bit-zero))),
    )
