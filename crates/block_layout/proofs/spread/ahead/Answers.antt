use Rattle.std.proofs.Common.{◌-◌, arith}
use Rattle.std.proofs.lemmas.Int.{ints}
use Rattle.block_layout.proofs.spread.ahead.Goals as goal

pub returns-clause-on : goal.returns-clause-on
returns-clause-on c = (c.args.to - c.args.from - 1, omega (arith, ints))
