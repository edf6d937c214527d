use Rattle.loop_check.proofs.Bounds.{WeighNothing}
use Rattle.loop_check.proofs.check.weigh_nothing.Given as goal

abbrev pub invariant-loop-i : goal.invariant-loop-i
invariant-loop-i l = WeighNothing l.terms l.i
