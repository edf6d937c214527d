-- In a framed program each register that is read is a number, and each byte of the frame that is loaded is set.
use Rattle.std.proofs.Common.{◌≡◌, ◌≢◌, ℕ, ℤ, ◌+◌, ◌/◌, ◌%◌, ◌^◌, ◌<◌, ◌≤◌, ◌⊎◌, inl, inr, ⊎_elim, Some, List, [], ◌∷◌, refl, sym, ap, subst, arith}
use Rattle.std.specs.List.{Contains}
use Rattle.std.specs.Int.{cast_unsigned, w64}
use Rattle.std.proofs.lemmas.List.Elements.{Contains-append_right}
use Rattle.std.proofs.lemmas.Bool.{cases_lt}
use Rattle.span_context.specs.declared.profile.Profile.{Profile}
use Rattle.bpf_words.specs.declared.instruction.Operand.{Operand}
use Rattle.span_context.specs.declared.size.Size.{Size}
use Rattle.bpf_words.specs.declared.instruction.Operand.TheVariants.{Immediate, Source}
use Rattle.bpf_words.specs.declared.instruction.Insn.{Insn}
use Rattle.bpf_words.specs.declared.instruction.Insn.TheVariants.{Compute, Negate, Extend, Convert, Jump, JumpLong, Branch, Load, LoadSigned, Store, LoadWide, Exit}
use Rattle.bpf_words.specs.Flow.{StartsAt, read_by, read_operand, written_by}
use Rattle.semantics.specs.Memory.{bytes_in, bytes_in_signed}
use Rattle.semantics.specs.Step.{Program}
use Rattle.abstract_state.specs.declared.known.Known.TheVariants as known
use Rattle.abstract_state.specs.declared.slot.Slot.{Slot}
use Rattle.abstract_state.specs.declared.state.AbsReg.{AbsReg}
use Rattle.abstract_state.specs.declared.state.AbsReg.TheVariants.{Unset, Set}
use Rattle.abstract_state.specs.declared.state.AbsState.{AbsState}
use Rattle.abstract_state.specs.State.{register_at, slot_at}
use Rattle.abstract_state.specs.Kinds.{HasNumberAt, KeepsKind, IsContextAt, IsStackAt, IsNumberReg, WritesNumber}
use Rattle.abstract_state.specs.Exact.{AnyNumber}
use Rattle.abstract_state.specs.Frame.{IsStackByte, IsMarkedAt, AreMarked, StoresSlot}
use Rattle.abstract_state.specs.Guard.{stack_read, stack_read_signed, stored}
use Rattle.abstract_state.proofs.Exact.{any_is_number}
use Rattle.abstract_state.proofs.KindLaws.{keeps_self}
use Rattle.verifier.proofs.Learnt.{IsAside, aside_keeps, keeps_context, keeps_stack, bytes_stay}
use Rattle.verifier.specs.Plain.{IsFree, IsFreeOperand, Leads, Path, begins, goes, with_written}
use Rattle.verifier.specs.Framed.{byte_at, IsFramedInsn, StoresByte, LoadsByte, Unstored, at_first, spared, IsFramed}
use Rattle.verifier.specs.Arises.{IsGranted, Leaves, Takes, TakesNumbers, Arises, first, fell, jumped, joined, MayRefuse, of_numbers, of_row, of_store}
use Rattle.verifier.proofs.PlainRuns.{Known, nothing_in, is_written, not_in, operand_number, reads}
use Rattle.verifier.proofs.Taking.{writes_takes}

-- what is known before a slot of a framed program
record FramedAt (program : Program) (slot : ℕ) (a : AbsState) : Type 0 where
  context : IsContextAt 0 (register_at a.registers 1)
  frame : IsStackAt 512 (register_at a.registers 10)
  registers : (i : ℕ) → i < 11 → Known program slot a i
  bytes : (p : ℕ) → p < 512 → IsMarkedAt a.stack p ⊎ Unstored program p slot

-- what an instruction there reads
record ReadsIn (a : AbsState) (insn : Insn) : Type 0 where
  context : IsContextAt 0 (register_at a.registers 1)
  frame : IsStackAt 512 (register_at a.registers 10)
  numbers : (r : ℕ) → Contains (read_by insn) r → IsFree r → HasNumberAt a r
  bytes : (p : ℕ) → p < 512 → LoadsByte insn p → IsMarkedAt a.stack p

-- ---- what is read
end_byte : (reg : AbsReg) (o : ℕ) → IsStackAt 512 reg → IsStackByte ((512 + o) % 2 ^ 64) o reg
end_byte Unset o h = absurd h
end_byte (Set (known.Number q)) o h = absurd h
end_byte (Set (known.Context q)) o h = absurd h
end_byte (Set (known.Stack q)) o h = ap (λ (n : ℕ). (n + o) % 2 ^ 64) h
end_byte (Set (known.Lent q)) o h = absurd h

at_frame : (a : AbsState) (base : ℕ) (offset : ℤ) → base ≡ 10 → IsStackAt 512 (register_at a.registers 10) → IsStackByte (byte_at offset) (cast_unsigned w64 offset) (register_at a.registers base)
at_frame a base offset is frame =
    subst (λ (r : ℕ). IsStackByte (byte_at offset) (cast_unsigned w64 offset) (register_at a.registers r)) (sym is) (end_byte (register_at a.registers 10) (cast_unsigned w64 offset) frame)

load_marked : (a : AbsState) (insn : Insn) (offset : ℤ) (count : ℕ) → byte_at offset + count ≤ 512 → ((p : ℕ) → byte_at offset ≤ p → p < byte_at offset + count → LoadsByte insn p) → ReadsIn a insn → AreMarked a.stack (byte_at offset) count
load_marked a insn offset count within loads from = record {
  within = within;
  marked = λ j h. from.bytes (byte_at offset + j) (omega arith) (loads (byte_at offset + j) (omega arith) (omega arith));
}

granted : (profile : Profile) (a : AbsState) (insn : Insn) → IsFramedInsn insn → ReadsIn a insn → IsGranted profile a insn
granted profile a (Compute w op d o) is from = of_numbers (reads a (Compute w op d o) is from.context from.numbers)
granted profile a (Negate w d) is from = of_numbers (reads a (Negate w d) is from.context from.numbers)
granted profile a (Extend x d r) is from = of_numbers (reads a (Extend x d r) is from.context from.numbers)
granted profile a (Convert c x d) is from = of_numbers (reads a (Convert c x d) is from.context from.numbers)
granted profile a (Jump distance) is from = of_numbers (reads a (Jump distance) is from.context from.numbers)
granted profile a (JumpLong distance) is from = of_numbers (reads a (JumpLong distance) is from.context from.numbers)
granted profile a (Branch w c l r distance) is from = of_numbers (reads a (Branch w c l r distance) is from.context from.numbers)
granted profile a (LoadWide d v) is from = of_numbers (reads a (LoadWide d v) is from.context from.numbers)
granted profile a Exit is from = of_numbers (reads a Exit is from.context from.numbers)
granted profile a (Load z d base o) (inl plain) from = of_numbers (reads a (Load z d base o) plain from.context from.numbers)
granted profile a (Load z d base o) (inr (free, (is, within))) from =
    of_row d AnyNumber (stack_read z d base (byte_at o) o (at_frame a base o is from.frame) (load_marked a (Load z d base o) o (bytes_in z) within (λ p low high. (is, (low, high))) from))
granted profile a (LoadSigned z d base o) (free, (is, within)) from =
    of_row d AnyNumber (stack_read_signed z d base (byte_at o) o (at_frame a base o is from.frame) (load_marked a (LoadSigned z d base o) o (bytes_in_signed z) within (λ p low high. (low, high)) from))
granted profile a (Store z base o v) (free, (is, within)) from =
    of_store (byte_at o) (bytes_in z) (stored z base (byte_at o) o v (at_frame a base o is from.frame) within (operand_number a v free (λ r c f. from.numbers r (Contains-append_right (base ∷ []) (read_operand v) r c) f)))

reads_in : (program : Program) (slot : ℕ) (a : AbsState) (insn : Insn) → IsFramed program → FramedAt program slot a → StartsAt program slot insn → ReadsIn a insn
reads_in program slot a insn framed at starts = record {
  context = at.context;
  frame = at.frame;
  numbers = λ r read free.
      let below = free.0 in
      ⊎_elim
      (λ (number : HasNumberAt a r). number)
      (λ (path : (done : List ℕ) × Path program slot done × (Contains done r → ⊥)). absurd (path.2 (framed.set slot r path.0 insn path.1 starts read free)))
      (at.registers r (omega arith));
  bytes = λ p less loads.
      ⊎_elim
      (λ (marked : IsMarkedAt a.stack p). marked)
      (λ (path : Unstored program p slot). absurd (framed.stored slot p insn path starts loads))
      (at.bytes p less);
}

-- ---- what an instruction leaves
is_aside : (register left : ℕ) (right : Operand) → register < 11 → ((d : ℕ) → IsFree d → register ≢ d) → IsFree left → IsFreeOperand right → IsAside left right register
is_aside register left (Immediate value) few fixed free operand = record { few = few; left = fixed left free; right = λ e. cc }
is_aside register left (Source other) few fixed free operand = record {
  few = few;
  left = fixed left free;
  right = λ e. let same : register ≡ other = cc in fixed other operand same;
}

same_kind : (a b : AbsState) (register : ℕ) → register_at b.registers register ≡ register_at a.registers register → KeepsKind (register_at a.registers register) (register_at b.registers register)
same_kind a b register same = subst (λ (r : AbsReg). KeepsKind (register_at a.registers register) r) (sym same) (keeps_self (register_at a.registers register))

leaves : (profile : Profile) (register : ℕ) (a b : AbsState) (insn : Insn) → register < 11 → ((d : ℕ) → IsFree d → register ≢ d) → IsFramedInsn insn → Leaves profile a insn b → KeepsKind (register_at a.registers register) (register_at b.registers register)
leaves profile register a b (Compute w op d o) few fixed (free, fo) left = same_kind a b register (left.0.others register (fixed d free))
leaves profile register a b (Negate w d) few fixed free left = same_kind a b register (left.0.others register (fixed d free))
leaves profile register a b (Extend x d r) few fixed (free, fr) left = same_kind a b register (left.0.others register (fixed d free))
leaves profile register a b (Convert c x d) few fixed free left = same_kind a b register (left.0.others register (fixed d free))
leaves profile register a b (Jump distance) few fixed p left = same_kind a b register (ap (λ (s : AbsState). register_at s.registers register) left.0)
leaves profile register a b (JumpLong distance) few fixed p left = same_kind a b register (ap (λ (s : AbsState). register_at s.registers register) left.0)
leaves profile register a b (Branch w c l r distance) few fixed (fl, fr) left = aside_keeps l r register a b (is_aside register l r few fixed fl fr) left.0
leaves profile register a b (Load z d base o) few fixed (inl (free, fb, ff)) left = same_kind a b register (left.0.others register (fixed d free))
leaves profile register a b (Load z d base o) few fixed (inr (free, within)) left = same_kind a b register (left.0.others register (fixed d free))
leaves profile register a b (LoadSigned z d base o) few fixed (free, within) left = same_kind a b register (left.0.others register (fixed d free))
leaves profile register a b (Store z base o v) few fixed p left = same_kind a b register (ap (λ (regs : List AbsReg). register_at regs register) left.0)
leaves profile register a b (LoadWide d v) few fixed free left = same_kind a b register (left.0.others register (fixed d free))
leaves profile register a b Exit few fixed p left = same_kind a b register (ap (λ (s : AbsState). register_at s.registers register) left.0)

loaded : (a b : AbsState) (insn : Insn) (d : ℕ) → written_by insn ≡ Some d → ((i : ℕ) → i ≢ d → register_at b.registers i ≡ register_at a.registers i) → IsNumberReg (register_at b.registers d) → TakesNumbers a insn b
loaded a b insn d writes others number =
    let given : WritesNumber a d b = record { written = number; others = others } in writes_takes a b insn d writes given

takes_numbers : (profile : Profile) (a b : AbsState) (insn : Insn) → IsFramedInsn insn → ReadsIn a insn → Takes profile a insn b → TakesNumbers a insn b
takes_numbers profile a b (Compute w op d o) is from takes = takes.numbers (reads a (Compute w op d o) is from.context from.numbers)
takes_numbers profile a b (Negate w d) is from takes = takes.numbers (reads a (Negate w d) is from.context from.numbers)
takes_numbers profile a b (Extend x d r) is from takes = takes.numbers (reads a (Extend x d r) is from.context from.numbers)
takes_numbers profile a b (Convert c x d) is from takes = takes.numbers (reads a (Convert c x d) is from.context from.numbers)
takes_numbers profile a b (Jump distance) is from takes = takes.numbers (reads a (Jump distance) is from.context from.numbers)
takes_numbers profile a b (JumpLong distance) is from takes = takes.numbers (reads a (JumpLong distance) is from.context from.numbers)
takes_numbers profile a b (Branch w c l r distance) is from takes = takes.numbers (reads a (Branch w c l r distance) is from.context from.numbers)
takes_numbers profile a b (LoadWide d v) is from takes = takes.numbers (reads a (LoadWide d v) is from.context from.numbers)
takes_numbers profile a b Exit is from takes = takes.numbers (reads a Exit is from.context from.numbers)
takes_numbers profile a b (Load z d base o) (inl plain) from takes = takes.numbers (reads a (Load z d base o) plain from.context from.numbers)
takes_numbers profile a b (Load z d base o) (inr (free, (is, within))) from takes =
    loaded a b (Load z d base o) d refl takes.leaves.0.others
    (any_is_number _ (takes.yields d AnyNumber (stack_read z d base (byte_at o) o (at_frame a base o is from.frame) (load_marked a (Load z d base o) o (bytes_in z) within (λ p low high. (is, (low, high))) from))))
takes_numbers profile a b (LoadSigned z d base o) (free, (is, within)) from takes =
    loaded a b (LoadSigned z d base o) d refl takes.leaves.0.others
    (any_is_number _ (takes.yields d AnyNumber (stack_read_signed z d base (byte_at o) o (at_frame a base o is from.frame) (load_marked a (LoadSigned z d base o) o (bytes_in_signed z) within (λ p low high. (low, high)) from))))
takes_numbers profile a b (Store z base o v) is from takes = record {
  written = λ i e. absurd (cc);
  kept = λ i was. subst IsNumberReg (ap (λ (regs : List AbsReg). register_at regs i) (sym takes.leaves.0)) was;
}

-- ---- the bytes that are set
same_bytes : (program : Program) (slot to p : ℕ) (a b : AbsState) (insn : Insn) → StartsAt program slot insn → Leads insn slot to → b.stack ≡ a.stack → (StoresByte insn p → ⊥) → IsMarkedAt a.stack p ⊎ Unstored program p slot → IsMarkedAt b.stack p ⊎ Unstored program p to
same_bytes program slot to p a b insn starts leads same none (inl marked) = inl (subst (λ (s : List Slot). IsMarkedAt s p) (sym same) marked)
same_bytes program slot to p a b insn starts leads same none (inr path) = inr (spared path starts leads none)

-- past a comparison each byte that was set for sure is
told_bytes : (program : Program) (slot to p : ℕ) (a b : AbsState) (insn : Insn) → StartsAt program slot insn → Leads insn slot to → (IsMarkedAt a.stack p → IsMarkedAt b.stack p) → (StoresByte insn p → ⊥) → IsMarkedAt a.stack p ⊎ Unstored program p slot → IsMarkedAt b.stack p ⊎ Unstored program p to
told_bytes program slot to p a b insn starts leads stay none (inl marked) = inl (stay marked)
told_bytes program slot to p a b insn starts leads stay none (inr path) = inr (spared path starts leads none)

store_bytes : (program : Program) (slot to p : ℕ) (a b : AbsState) (z : Size) (base : ℕ) (o : ℤ) (v : Operand) → StartsAt program slot (Store z base o v) → Leads (Store z base o v) slot to → p < 512 → ((i : ℕ) → i < 64 → StoresSlot (byte_at o) (bytes_in z) i (slot_at a.stack i) (slot_at b.stack i)) → IsMarkedAt a.stack p ⊎ Unstored program p slot → IsMarkedAt b.stack p ⊎ Unstored program p to
store_bytes program slot to p a b z base o v starts leads less stores (inl marked) = inl ((stores (p / 8) (omega arith)).kept (p % 8) (omega arith) marked)
store_bytes program slot to p a b z base o v starts leads less stores (inr path) =
    ⊎_elim
    (λ (before : p < byte_at o). inr (spared path starts leads (λ one. absurd (omega (arith, one.0)))))
    (λ (low : byte_at o ≤ p).
    ⊎_elim
    (λ (high : p < byte_at o + bytes_in z). inl ((stores (p / 8) (omega arith)).set (p % 8) (omega arith) (omega (arith, low)) (omega (arith, high))))
    (λ (behind : byte_at o + bytes_in z ≤ p). inr (spared path starts leads (λ one. absurd (omega (arith, one.1)))))
    (cases_lt p (byte_at o + bytes_in z)))
    (cases_lt p (byte_at o))

bytes_after : (profile : Profile) (program : Program) (slot to p : ℕ) (a b : AbsState) (insn : Insn) → IsFramedInsn insn → ReadsIn a insn → StartsAt program slot insn → Leads insn slot to → Takes profile a insn b → p < 512 → IsMarkedAt a.stack p ⊎ Unstored program p slot → IsMarkedAt b.stack p ⊎ Unstored program p to
bytes_after profile program slot to p a b (Compute w op d o) is from starts leads takes less was = same_bytes program slot to p a b (Compute w op d o) starts leads takes.leaves.1.0 (λ none. none) was
bytes_after profile program slot to p a b (Negate w d) is from starts leads takes less was = same_bytes program slot to p a b (Negate w d) starts leads takes.leaves.1.0 (λ none. none) was
bytes_after profile program slot to p a b (Extend x d r) is from starts leads takes less was = same_bytes program slot to p a b (Extend x d r) starts leads takes.leaves.1.0 (λ none. none) was
bytes_after profile program slot to p a b (Convert c x d) is from starts leads takes less was = same_bytes program slot to p a b (Convert c x d) starts leads takes.leaves.1.0 (λ none. none) was
bytes_after profile program slot to p a b (Jump distance) is from starts leads takes less was = same_bytes program slot to p a b (Jump distance) starts leads takes.leaves.1.0 (λ none. none) was
bytes_after profile program slot to p a b (JumpLong distance) is from starts leads takes less was = same_bytes program slot to p a b (JumpLong distance) starts leads takes.leaves.1.0 (λ none. none) was
bytes_after profile program slot to p a b (Branch w c l r distance) is from starts leads takes less was = told_bytes program slot to p a b (Branch w c l r distance) starts leads (bytes_stay l r p a b less takes.leaves.0) (λ none. none) was
bytes_after profile program slot to p a b (LoadWide d v) is from starts leads takes less was = same_bytes program slot to p a b (LoadWide d v) starts leads takes.leaves.1.0 (λ none. none) was
bytes_after profile program slot to p a b Exit is from starts leads takes less was = same_bytes program slot to p a b Exit starts leads takes.leaves.1.0 (λ none. none) was
bytes_after profile program slot to p a b (Load z d base o) is from starts leads takes less was = same_bytes program slot to p a b (Load z d base o) starts leads takes.leaves.1.0 (λ none. none) was
bytes_after profile program slot to p a b (LoadSigned z d base o) is from starts leads takes less was = same_bytes program slot to p a b (LoadSigned z d base o) starts leads takes.leaves.1.0 (λ none. none) was
bytes_after profile program slot to p a b (Store z base o v) (free, (is, within)) from starts leads takes less was =
    store_bytes program slot to p a b z base o v starts leads less
    (takes.stores (byte_at o) (bytes_in z) (stored z base (byte_at o) o v (at_frame a base o is from.frame) within (operand_number a v free (λ r c f. from.numbers r (Contains-append_right (base ∷ []) (read_operand v) r c) f))))
    was

-- ---- before each slot
carried_at : (profile : Profile) (program : Program) (slot to : ℕ) (a b : AbsState) (insn : Insn) → IsFramed program → FramedAt program slot a → StartsAt program slot insn → Leads insn slot to → Takes profile a insn b → FramedAt program to b
carried_at profile program slot to a b insn framed at starts leads takes =
    let is = framed.framed slot insn starts in
    let from = reads_in program slot a insn framed at starts in
    let taken = takes_numbers profile a b insn is from takes in
    record {
      context = keeps_context 0 (register_at a.registers 1) (register_at b.registers 1) (leaves profile 1 a b insn (omega arith) (λ d free e. free.1 (sym e)) is takes.leaves) at.context;
      frame = keeps_stack 512 (register_at a.registers 10) (register_at b.registers 10) (leaves profile 10 a b insn (omega arith) (λ d free e. let below = free.0 in absurd (omega arith)) is takes.leaves) at.frame;
      registers = λ i h.
          ⊎_elim
          (λ (wrote : written_by insn ≡ Some i). inl (taken.written i wrote))
          (λ (free : written_by insn ≡ Some i → ⊥).
          ⊎_elim
          (λ (was : HasNumberAt a i). inl (taken.kept i was))
          (λ (path : (done : List ℕ) × Path program slot done × (Contains done i → ⊥)).
          inr (with_written (written_by insn) path.0, goes path.1 starts leads, not_in (written_by insn) path.0 i free path.2))
          (at.registers i h))
          (is_written (written_by insn) i);
      bytes = λ p h. bytes_after profile program slot to p a b insn is from starts leads takes h (at.bytes p h);
    }

framed_at : (profile : Profile) (program : Program) (slot : ℕ) (a : AbsState) → IsFramed program → Arises profile program slot a → FramedAt program slot a
framed_at profile program slot a framed (first context frame unset) = record {
  context = context;
  frame = frame;
  registers = λ i h. inr ([], begins, nothing_in i);
  bytes = λ p h. inr at_first;
}
framed_at profile program slot a framed (fell {slot = before} {a = old} {insn = insn} from starts falls takes long) =
    carried_at profile program before slot old a insn framed (framed_at profile program before old framed from) starts (inl (falls, refl)) takes
framed_at profile program slot a framed (jumped {slot = before} {n = n} {a = old} {insn = insn} from starts jumps takes) =
    carried_at profile program before slot old a insn framed (framed_at profile program before old framed from) starts (inr (n, jumps, refl)) takes
framed_at profile program slot a framed (joined {a = left} {b = right} target one two joins) =
    let at_left = framed_at profile program slot left framed one in
    let at_right = framed_at profile program slot right framed two in
    record {
      context = (joins.registers 1 (omega arith)).context 0 at_left.context at_right.context;
      frame = (joins.registers 10 (omega arith)).stack 512 at_left.frame at_right.frame;
      registers = λ i h.
          ⊎_elim
          (λ (x : HasNumberAt left i). ⊎_elim (λ (y : HasNumberAt right i). inl ((joins.registers i h).numbers x y)) (λ p. inr p) (at_right.registers i h))
          (λ p. inr p)
          (at_left.registers i h);
      bytes = λ p h.
          ⊎_elim
          (λ (x : IsMarkedAt left.stack p). ⊎_elim (λ (y : IsMarkedAt right.stack p). inl ((joins.slots (p / 8) (omega arith)).marked (p % 8) (omega arith) x y)) (λ path. inr path) (at_right.bytes p h))
          (λ path. inr path)
          (at_left.bytes p h);
    }

-- each instruction of a framed program is granted, so it is never refused
pub framed_grants : (profile : Profile) (program : Program) → IsFramed program → MayRefuse profile program → ⊥
framed_grants profile program framed may =
    may.refused (granted profile may.state may.insn (framed.framed may.slot may.insn may.starts) (reads_in program may.slot may.state may.insn framed (framed_at profile program may.slot may.state framed may.arises) may.starts))
