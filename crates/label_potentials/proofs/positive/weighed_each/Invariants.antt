use Rattle.label_potentials.proofs.Weighing.{AreKnown}
use Rattle.label_potentials.proofs.positive.weighed_each.Given as goal

-- what the first terms weigh is known
abbrev pub invariant-loop-i : goal.invariant-loop-i
invariant-loop-i l = AreKnown l.state l.terms l.i l.weighed
