use Rattle.std.specs.Io.KnownBytes.{Consumes}
use Rattle.web_door.proofs.head.read_opening.Given as goal

abbrev pub invariant-loop : goal.invariant-loop
invariant-loop g l = Consumes (g.R.Read.remaining l.fn.reader) (g.R.Read.remaining l.reader) l.read.items
