use Rattle.std.proofs.Common.{arith, rules}
use Rattle.known_bits.proofs.BitLaws.{word_bits}
use Rattle.known_bits.proofs.Members.{Fit, fit}
use Rattle.known_bits.proofs.Bitwise.{join_apart, join_left, join_right, join_agreed}
use Rattle.known_bits.proofs.Bits.join.Goals as goal

pub invariant_of-result : goal.invariant_of-result
invariant_of-result c =
    let fa : Fit c.args.self = fit c.args.self (search rules) (search rules) in
    let fb : Fit c.args.other = fit c.args.other (search rules) (search rules) in
    record { disjoint = join_apart c.args.self c.args.other _ _ (record { fits = grind (arith, word_bits); bits = λ k below. grind (arith, word_bits) }) (record { fits = grind (arith, word_bits); bits = λ k below. grind (arith, word_bits) }) }

pub returns-clause-left : goal.returns-clause-left
returns-clause-left c =
    let fa : Fit c.args.self = fit c.args.self (search rules) (search rules) in
    let fb : Fit c.args.other = fit c.args.other (search rules) (search rules) in
    join_left c.args.self c.args.other _ (record { fits = grind (arith, word_bits); bits = λ k below. grind (arith, word_bits) }) (record { fits = grind (arith, word_bits); bits = λ k below. grind (arith, word_bits) })

pub returns-clause-right : goal.returns-clause-right
returns-clause-right c =
    let fa : Fit c.args.self = fit c.args.self (search rules) (search rules) in
    let fb : Fit c.args.other = fit c.args.other (search rules) (search rules) in
    join_right c.args.self c.args.other _ (record { fits = grind (arith, word_bits); bits = λ k below. grind (arith, word_bits) }) (record { fits = grind (arith, word_bits); bits = λ k below. grind (arith, word_bits) })

pub returns-clause-agreed : goal.returns-clause-agreed
returns-clause-agreed c =
    let fa : Fit c.args.self = fit c.args.self (search rules) (search rules) in
    let fb : Fit c.args.other = fit c.args.other (search rules) (search rules) in
    join_agreed c.args.self c.args.other _ (record { fits = grind (arith, word_bits); bits = λ k below. grind (arith, word_bits) })
