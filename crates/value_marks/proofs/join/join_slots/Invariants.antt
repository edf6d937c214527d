use Rattle.std.proofs.Common.{◌≡◌, ℕ, ◌<◌, ◌≤◌, length}
use Rattle.value_marks.specs.Mark.{mark_at}
use Rattle.value_marks.specs.Marking.{mark_of_both}
use Rattle.value_marks.proofs.join.join_slots.Given as goal

abbrev pub invariant-loop-i : goal.invariant-loop-i
invariant-loop-i l = record {
  long : length l.a ≡ 64;
  done : (k : ℕ) → k < l.i → mark_at l.a k ≡ mark_of_both (mark_at l.initial.a k) (mark_at l.b k);
  rest : (k : ℕ) → l.i ≤ k → mark_at l.a k ≡ mark_at l.initial.a k;
}
