use Rattle.std.proofs.Common.{◌≡◌, ℕ, ◌+◌, ◌*◌, ◌<◌, ◌≤◌, ◌&&◌, nat_lt, cond, length, None}
use Rattle.value_marks.specs.Mark.{mark_at}
use Rattle.value_marks.proofs.marks.clear.Given as goal

abbrev pub invariant-loop-i : goal.invariant-loop-i
invariant-loop-i l = record {
  long : length l.slots ≡ 64;
  done : (k : ℕ) → k < l.i → mark_at l.slots k ≡ cond (nat_lt l.place (8 * k + 8) && nat_lt (8 * k) (l.place + l.count)) None (mark_at l.initial.slots k);
  rest : (k : ℕ) → l.i ≤ k → mark_at l.slots k ≡ mark_at l.initial.slots k;
}
