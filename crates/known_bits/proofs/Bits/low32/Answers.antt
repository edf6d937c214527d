use Rattle.std.proofs.Common.{arith, rules}
use Rattle.known_bits.proofs.Members.{fit}
use Rattle.known_bits.proofs.Shifts.{low_words, low_apart, low_contains, low_knows}
use Rattle.known_bits.proofs.Bits.low32.Goals as goal

pub invariant_of-result : goal.invariant_of-result
invariant_of-result c = record { disjoint = low_apart c.args.self _ _ (grind (arith, low_words)) (grind (arith, low_words)) }

pub returns-clause-contains : goal.returns-clause-contains
returns-clause-contains c = low_contains c.args.self _ (grind (arith, low_words)) (grind (arith, low_words))

pub returns-clause-knows : goal.returns-clause-knows
returns-clause-knows c = low_knows c.args.self _ (fit c.args.self (search rules) (search rules)) (grind (arith, low_words))
