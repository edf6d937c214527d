use Rattle.std.proofs.Common.{[]}
use Rattle.hub_commands.specs.Pieces.{HasRead}
use Rattle.hub_commands.proofs.pieces.take_from.Given as goal

abbrev pub invariant-loop : goal.invariant-loop
invariant-loop g l = (terms : g.G.Gather.Terms) → g.G.Gather.keeps terms [] l.initial.kept → HasRead (g.G.Gather.keeps terms) (g.R.Read.remaining l.initial.reader) (g.R.Read.remaining l.reader) l.kept
