use Rattle.std.proofs.Common.{◌<◌, ℕ}
use Rattle.value_marks.specs.Mark.{mark_at}
use Rattle.loop_states.specs.Within.{IsLengthKept}
use Rattle.loop_states.proofs.within.are_kept.Given as goal

abbrev pub invariant-loop-i : goal.invariant-loop-i
invariant-loop-i l = (k : ℕ) → k < l.i → IsLengthKept (mark_at l.first k) (mark_at l.second k)
