use Rattle.std.proofs.Common.{rules}
use Rattle.known_bits.proofs.Members.{fit, has_value, value_least}
use Rattle.known_bits.proofs.Bits.least.Goals as goal

pub returns-clause-contained : goal.returns-clause-contained
returns-clause-contained c = has_value c.args.self (fit c.args.self (search rules) (search rules))

pub returns-clause-least : goal.returns-clause-least
returns-clause-least c = value_least c.args.self
