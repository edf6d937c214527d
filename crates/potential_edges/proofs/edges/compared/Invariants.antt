use Rattle.potential_edges.proofs.Rests.{Reached}
use Rattle.potential_edges.proofs.edges.compared.Given as goal

-- what the first terms leave is known
abbrev pub invariant-loop-i : goal.invariant-loop-i
invariant-loop-i l = Reached l.state l.insn l.behind l.first l.second l.i l.constant l.weighed
