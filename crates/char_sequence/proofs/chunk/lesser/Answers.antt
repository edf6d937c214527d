use Rattle.std.proofs.Common.{refl}
use Rattle.char_sequence.proofs.Ids.{less_irrefl, less_trans}
use Rattle.char_sequence.proofs.chunk.lesser.Goals as goal

pub returns-then-is_below-clause-first : goal.returns-then-is_below-clause-first
returns-then-is_below-clause-first c = less_irrefl c.args.a

pub returns-then-is_below-clause-second : goal.returns-then-is_below-clause-second
returns-then-is_below-clause-second c = λ less. less_irrefl c.args.b (less_trans c.args.b c.args.a c.args.b less (c.if-is_below.ensures.0 refl))

pub returns-else-is_below-clause-second : goal.returns-else-is_below-clause-second
returns-else-is_below-clause-second c = less_irrefl c.args.b
