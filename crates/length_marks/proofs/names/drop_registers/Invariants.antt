use Rattle.std.proofs.Common.{◌≡◌, ℕ, ◌<◌, ◌≤◌, length}
use Rattle.value_marks.specs.Mark.{mark_at}
use Rattle.length_marks.specs.Names.{unless_named}
use Rattle.length_marks.proofs.names.drop_registers.Given as goal

abbrev pub invariant-loop-i : goal.invariant-loop-i
invariant-loop-i l = record {
  long : length l.registers ≡ 11;
  done : (k : ℕ) → k < l.i → mark_at l.registers k ≡ unless_named l.at (mark_at l.initial.registers k);
  rest : (k : ℕ) → l.i ≤ k → mark_at l.registers k ≡ mark_at l.initial.registers k;
}
