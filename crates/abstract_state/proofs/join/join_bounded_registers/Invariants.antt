use Rattle.std.proofs.Common.{◌≡◌, ℕ, ◌<◌, ◌≤◌, length, Option, option_map}
use Rattle.abstract_state.specs.Situation.{registers_of, either_register, bounded, least_of}
use Rattle.abstract_state.specs.Lent.{Lengths}
use Rattle.abstract_state.specs.Kinds.{JoinsReg}
use Rattle.abstract_state.specs.State.{ContainsRegister, IsLong, register_at}
use Rattle.abstract_state.proofs.join.join_bounded_registers.Given as goal

abbrev pub invariant-loop-i : goal.invariant-loop-i
invariant-loop-i l = record {
  long : length l.a ≡ 11;
  kinds : (k : ℕ) → k < l.i → JoinsReg (register_at l.initial.a k) (register_at l.b k) (register_at l.a k);
  left : (k : ℕ) (lengths : Lengths) (o : Option ℕ) → IsLong l.ours lengths → k < l.i → ContainsRegister (register_at l.initial.a k) lengths o → ContainsRegister (register_at l.a k) lengths o;
  right : (k : ℕ) (lengths : Lengths) (o : Option ℕ) → IsLong l.theirs lengths → k < l.i → ContainsRegister (register_at l.b k) lengths o → ContainsRegister (register_at l.a k) lengths o;
  rule : (k : ℕ) → k < l.i → registers_of l.a k ≡ either_register (option_map (bounded (least_of l.ours)) (registers_of l.initial.a k)) (option_map (bounded (least_of l.theirs)) (registers_of l.b k));
  rest : (k : ℕ) → l.i ≤ k → register_at l.a k ≡ register_at l.initial.a k;
}
