use Rattle.session_lines.proofs.Lining.{SoFar}
use Rattle.session_lines.proofs.reader.read_line.Given as goal

abbrev pub invariant-loop : goal.invariant-loop
invariant-loop g l = SoFar (g.B.Read.remaining l.initial.reader) (g.B.Read.remaining l.reader) l.line.items
