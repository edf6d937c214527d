use Rattle.std.proofs.Common.{arith, rules}
use Rattle.known_bits.proofs.BitLaws.{word_bits}
use Rattle.known_bits.proofs.Members.{Fit, fit}
use Rattle.known_bits.proofs.Bitwise.{xor_apart, xor_contains, xor_knows}
use Rattle.known_bits.proofs.Bits.xor.Goals as goal

pub invariant_of-result : goal.invariant_of-result
invariant_of-result c =
    let fa : Fit c.args.self = fit c.args.self (search rules) (search rules) in
    let fb : Fit c.args.other = fit c.args.other (search rules) (search rules) in
    record { disjoint = xor_apart c.args.self c.args.other _ _ (record { fits = grind (arith, word_bits); bits = λ k below. grind (arith, word_bits) }) (record { fits = grind (arith, word_bits); bits = λ k below. grind (arith, word_bits) }) }

pub returns-clause-contains : goal.returns-clause-contains
returns-clause-contains c =
    let fa : Fit c.args.self = fit c.args.self (search rules) (search rules) in
    let fb : Fit c.args.other = fit c.args.other (search rules) (search rules) in
    xor_contains c.args.self c.args.other _ (record { fits = grind (arith, word_bits); bits = λ k below. grind (arith, word_bits) }) (record { fits = grind (arith, word_bits); bits = λ k below. grind (arith, word_bits) })

pub returns-clause-knows : goal.returns-clause-knows
returns-clause-knows c =
    let fa : Fit c.args.self = fit c.args.self (search rules) (search rules) in
    let fb : Fit c.args.other = fit c.args.other (search rules) (search rules) in
    xor_knows c.args.self c.args.other _ fa fb (record { fits = grind (arith, word_bits); bits = λ k below. grind (arith, word_bits) })
