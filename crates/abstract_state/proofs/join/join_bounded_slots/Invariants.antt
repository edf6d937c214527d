use Rattle.std.proofs.Common.{ℕ, ◌<◌, ◌≤◌, ◌≡◌, length}
use Rattle.abstract_state.specs.Stacks.{slots_of, either_eight}
use Rattle.abstract_state.specs.Situation.{bounded_eight, least_of}
use Rattle.abstract_state.specs.Lent.{Lengths}
use Rattle.abstract_state.specs.Kinds.{JoinsSlot}
use Rattle.abstract_state.specs.State.{Bytes, ContainsSlot, IsLong, slot_at}
use Rattle.abstract_state.proofs.join.join_bounded_slots.Given as goal

abbrev pub invariant-loop-i : goal.invariant-loop-i
invariant-loop-i l = record {
  long : length l.a ≡ 64;
  left : (k : ℕ) (lengths : Lengths) (bytes : Bytes) → IsLong l.ours lengths → k < l.i → ContainsSlot (slot_at l.initial.a k) lengths bytes k → ContainsSlot (slot_at l.a k) lengths bytes k;
  right : (k : ℕ) (lengths : Lengths) (bytes : Bytes) → IsLong l.theirs lengths → k < l.i → ContainsSlot (slot_at l.b k) lengths bytes k → ContainsSlot (slot_at l.a k) lengths bytes k;
  joins : (k : ℕ) → k < l.i → JoinsSlot (slot_at l.initial.a k) (slot_at l.b k) (slot_at l.a k);
  rule : (k : ℕ) → k < l.i → slots_of l.a k ≡ either_eight (bounded_eight (least_of l.ours) (slots_of l.initial.a k)) (bounded_eight (least_of l.theirs) (slots_of l.b k));
  rest : (k : ℕ) → l.i ≤ k → slot_at l.a k ≡ slot_at l.initial.a k;
}
