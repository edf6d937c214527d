use Rattle.std.proofs.Common.{◌%◌, rules}
use Rattle.known_bits.proofs.Members.{fit}
use Rattle.known_bits.proofs.Shifts.{shr_apart, shr_contains, shr_knows}
use Rattle.known_bits.proofs.Bits.shr.Goals as goal

pub invariant_of-result : goal.invariant_of-result
invariant_of-result c = record { disjoint = shr_apart c.args.self _ _ (c.args.count % 64) (search rules) (search rules) }

pub returns-clause-contains : goal.returns-clause-contains
returns-clause-contains c = shr_contains c.args.self _ (c.args.count % 64) (search rules) (search rules)

pub returns-clause-knows : goal.returns-clause-knows
returns-clause-knows c =
    shr_knows c.args.self _ (c.args.count % 64) (fit c.args.self (search rules) (search rules)) (search rules)
