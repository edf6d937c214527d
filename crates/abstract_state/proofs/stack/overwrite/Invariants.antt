use Rattle.std.proofs.Common.{ℕ, ◌<◌, ◌≤◌, ◌≡◌, length}
use Rattle.abstract_state.specs.Stacks.{eight_of, slots_of, stored}
use Rattle.abstract_state.specs.Lent.{Lengths}
use Rattle.abstract_state.specs.Frame.{StoresSlot}
use Rattle.abstract_state.specs.State.{Bytes, ContainsSlot, slot_at, Spares, Fills}
use Rattle.abstract_state.proofs.stack.overwrite.Given as goal

abbrev pub invariant-loop-i : goal.invariant-loop-i
invariant-loop-i l = record {
  long : length l.slots ≡ 64;
  done : (k : ℕ) (lengths : Lengths) (old new : Bytes) → k < l.i → ContainsSlot (slot_at l.initial.slots k) lengths old k → Spares l.offset l.count old new → Fills l.offset l.count new → ContainsSlot (slot_at l.slots k) lengths new k;
  stores : (k : ℕ) → k < l.i → StoresSlot l.offset l.count k (slot_at l.initial.slots k) (slot_at l.slots k);
  rule : (k : ℕ) → k < l.i → eight_of (slot_at l.slots k) ≡ stored l.offset l.count (slots_of l.initial.slots) k;
  rest : (k : ℕ) → l.i ≤ k → slot_at l.slots k ≡ slot_at l.initial.slots k;
}
