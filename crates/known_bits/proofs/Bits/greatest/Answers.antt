use Rattle.std.proofs.Common.{rules}
use Rattle.known_bits.proofs.Members.{fit, has_most, most_greatest}
use Rattle.known_bits.proofs.Bits.greatest.Goals as goal

pub returns-clause-contained : goal.returns-clause-contained
returns-clause-contained c = has_most c.args.self (fit c.args.self (search rules) (search rules))

pub returns-clause-greatest : goal.returns-clause-greatest
returns-clause-greatest c = most_greatest c.args.self
