use Rattle.std.proofs.Common.{[], refl, arith}
use Rattle.bench.proofs.programs.context_of.Goals as goal

pub returns : goal.returns
returns c = c.new.ensures.fits c.args.text.now [] (omega (arith, c.requires)) refl
