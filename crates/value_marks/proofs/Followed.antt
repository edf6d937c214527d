-- The marks after an instruction are true of the machine after it.
use Rattle.std.proofs.Common.{◌≡◌, ℕ, ℤ, ◌+◌, ◌-◌, ◌*◌, ◌%◌, ◌^◌, ◌<◌, ◌≤◌, Bool, false, cond, nat_lt, nat_eq, ◌&&◌, List, length, Option, Some, None, Result, Ok, refl, sym, ◌∙◌, ap, subst, arith}
use Rattle.std.proofs.lemmas.Bool.Decides.{nat_tests}
use Rattle.std.specs.Option.{option_map_or}
use Rattle.std.specs.Int.{cast_unsigned, w64}
use Rattle.span_context.specs.Context.{SpanBytes}
use Rattle.span_context.specs.declared.size.Size.{Size}
use Rattle.span_context.specs.declared.size.Size.TheVariants.{Double}
use Rattle.bpf_words.specs.declared.instruction.Insn.{Insn}
use Rattle.bpf_words.specs.declared.instruction.Insn.TheVariants.{Compute, Negate, Extend, Convert, Jump, JumpLong, Branch, Load, LoadSigned, Store, LoadWide, Exit}
use Rattle.bpf_words.specs.declared.instruction.Arithmetic.{Arithmetic}
use Rattle.bpf_words.specs.declared.instruction.Arithmetic.TheVariants.{Mov}
use Rattle.bpf_words.specs.declared.instruction.Operand.{Operand}
use Rattle.bpf_words.specs.declared.instruction.Operand.TheVariants.{Immediate, Source}
use Rattle.bpf_words.specs.declared.instruction.Width.{Width}
use Rattle.bpf_words.specs.declared.instruction.Width.TheVariants.{Full}
use Rattle.bpf_words.specs.Flow.{written_by}
use Rattle.semantics.specs.declared.FaultKind.{FaultKind}
use Rattle.semantics.specs.State.{State, register_of, operand_in}
use Rattle.semantics.specs.Memory.{address_of, load, store, stored, stack_base, bytes_in}
use Rattle.semantics.specs.Value.{cut, value_of}
use Rattle.semantics.specs.Step.{Moved, On, Returns, first_of}
use Rattle.abstract_state.specs.declared.state.AbsReg.{AbsReg}
use Rattle.abstract_state.specs.declared.state.AbsState.{AbsState}
use Rattle.abstract_state.specs.Lent.{Lengths}
use Rattle.abstract_state.specs.State.{Span, lengths_of, Contains, does, with_register, with_stack, bytes_of, HasNumber, register_at, slot_at}
use Rattle.abstract_state.specs.Addresses.{Content}
use Rattle.abstract_state.specs.Stacks.{whole_in, eight_of}
use Rattle.abstract_state.specs.Situation.{Situation, situation_of, registers_of, operand_of}
use Rattle.abstract_state.specs.Situation as rules
use Rattle.abstract_state.proofs.Memories.{store_spares, store_number, loads_back}
use Rattle.value_marks.specs.declared.mark.Mark.{Mark}
use Rattle.value_marks.specs.Mark.{Agrees}
use Rattle.value_marks.specs.Marking.{Marking, mark_register, mark_slot, named, exactly, place, slot_of, copied, computed, overwritten, spilled, filled, arithmetic, stored as marks_stored, loaded as marks_loaded, followed}
use Rattle.value_marks.specs.Bearing.{InRegister, InSlot, BearsBy, Bears, AreBelow}
use Rattle.value_marks.proofs.Machine.{unwound, wrote, wrote_one, went, holds_it, stored_so, stack_within, place_in_stack, place_address}
use Rattle.value_marks.proofs.Words.{agree_narrower}
use Rattle.value_marks.proofs.Moved.{by_test, at_place, not_place, one_word, bears_written}
use Rattle.value_marks.proofs.Held.{among, Fits, known_of, exact_operand, narrow_register, place_register, slot_is, spilled_there}
use Rattle.value_marks.proofs.Naming.{name_register, name_slot, copied_agrees, computed_agrees}

-- ---- a register is written with what is nobody's copy
pub forgets : (span : Span) (s next : State) (insn : Insn) (d : ℕ) (far : ℤ) (w : Marking) → length s.registers ≡ 11 → written_by insn ≡ Some d → does span s insn ≡ Ok (On next far) → Bears w s → Bears (mark_register d None w) next
forgets span s next insn d far w eleven writes ran was =
    let one = wrote_one span s next insn d far writes ran in
    (was.0, subst (λ (t : State). BearsBy was.0 (mark_register d None w) t) (sym one.1) (bears_written was.0 w s d one.0 None eleven was.1 (λ m e. absurd (cc))))

pub stays : (w : Marking) (s next : State) → next ≡ s → Bears w s → Bears w next
stays w s next same was = (was.0, subst (λ (t : State). BearsBy was.0 w t) (sym same) was.1)

-- ---- moves
pub copies : (a : AbsState) (span : Span) (s next : State) (at : ℕ) (width : Width) (d r : ℕ) (far : ℤ) (w : Marking) → Contains a (lengths_of span) s → AreBelow at w → Bears w s → does span s (Compute width Mov d (Source r)) ≡ Ok (On next far) → Bears (copied at width d r (registers_of a.registers) w) next
unfolding copied
copies a span s next at width d r far w c below was ran =
    let u = unwound (register_of s r) _ _ ran in
    let is = wrote s next d _ _ far u.2 in
    let y = u.0 in
    let known = known_of a (lengths_of span) s r y c u.1 in
    let content = registers_of a.registers r in
    let given = name_register at y r was.0 w s content (among s r y c.eleven u.1) below was.1 (holds_it s r y u.1) in (
      given.0,
      subst (λ (t : State). BearsBy given.0 (copied at width d r (registers_of a.registers) w) t) (sym is)
          (bears_written given.0 _ s d (cut width y) _ c.eleven given.1
          (copied_agrees given.0 width content (named at content (w.registers r)) y (narrow_register (register_at a.registers r) (lengths_of span) y known) given.2)),
    )

-- ---- sums and differences with an exact number
-- an operation but a move reads the register that it writes
pub computes : (a : AbsState) (span : Span) (s next : State) (width : Width) (operation : Arithmetic) (d : ℕ) (o : Operand) (far : ℤ) (w : Marking) → Contains a (lengths_of span) s → Bears w s → first_of s operation d ≡ register_of s d → does span s (Compute width operation d o) ≡ Ok (On next far) → Bears (mark_register d (computed width operation (exactly (operand_of (registers_of a.registers) o)) (w.registers d)) w) next
computes a span s next width operation d o far w c was reads ran =
    let u = unwound (first_of s operation d) _ _ ran in
    let t = unwound (operand_in s o) _ _ u.2 in
    let is = wrote s next d _ _ far t.2 in
    let x = u.0 in
    let y = t.0 in
    let read = sym reads ∙ u.1 in
    let mark = computed width operation (exactly (operand_of (registers_of a.registers) o)) (w.registers d) in (
      was.0,
      subst (λ (n : State). BearsBy was.0 (mark_register d mark w) n) (sym is)
          (bears_written was.0 w s d (value_of operation width (cut width x) (cut width y)) mark c.eleven was.1
          (λ m e. computed_agrees was.0 width operation (exactly (operand_of (registers_of a.registers) o)) (w.registers d) x y m
          (λ n one. exact_operand a (lengths_of span) s o n y c t.1 one)
          (λ k there. was.1.registers d (among s d x c.eleven read) k x there (holds_it s d x read)) e)),
    )

-- ---- stores
inside : (p count i : ℕ) → (nat_lt p (8 * i + 8) && nat_lt (8 * i) (p + count)) ≡ false → (k : ℕ) → 8 * i ≤ k → k < 8 * i + 8 → p ≤ k → k < p + count → ⊥
inside p count i e k from to low high = grind (arith, nat_tests)

-- the number in a slot that a store doesn't touch
spared : (stack : List (Option ℕ)) (p count v i n : ℕ) → length stack ≡ 512 → p + count ≤ 512 → ((k : ℕ) → 8 * i ≤ k → k < 8 * i + 8 → p ≤ k → k < p + count → ⊥) → HasNumber (bytes_of (stored stack p count v)) (8 * i) n → HasNumber (bytes_of stack) (8 * i) n
spared stack p count v i n long within outside has j h = sym (store_spares stack p count v long within (8 * i + j) (λ low high. outside (8 * i + j) (omega arith) (omega arith) low high)) ∙ has j h

no_slot : (o : Option Mark) (m : Mark) → o ≡ None → o ≡ Some m → ⊥
no_slot o m e f = cc

-- where the stored bytes are, by the base
stack_store : (bytes : SpanBytes) (s : State) (lengths : Lengths) (reg : AbsReg) (offset : ℤ) (count n v p : ℕ) → Fits reg lengths n → place (rules.register_of reg) offset ≡ Some p → (stack : List (Option ℕ)) → store bytes s.stack (address_of n offset) count v ≡ Ok stack → (stack ≡ stored s.stack p count v) × (p + count ≤ 512)
stack_store bytes s lengths reg offset count n v p fits there stack ran =
    let at = place_register reg lengths offset p n fits there in
    let so = stored_so bytes s.stack stack (address_of n offset) count v ran in
    let by = cast_unsigned w64 offset in
    let address : address_of n offset ≡ (stack_base + at.0 + by) % 2 ^ 64 = ap (λ (k : ℕ). (k + by) % 2 ^ 64) at.1 in
    let within = stack_within (address_of n offset) count so.0 in
    let begins : address_of n offset - stack_base ≡ p = ap (λ (k : ℕ). k - stack_base) address ∙ place_in_stack at.0 by count (omega (arith, address, within.0)) (omega (arith, address, within.1)) ∙ at.2 in
    (so.1 ∙ ap (λ (k : ℕ). stored s.stack k count v) begins, omega (arith, within.0, within.1, begins))

over : (origins : ℕ → ℕ) (w : Marking) (s : State) (o : Option ℕ) (count v : ℕ) (stack : List (Option ℕ)) → length s.stack ≡ 512 → BearsBy origins w s → ((p : ℕ) → o ≡ Some p → (stack ≡ stored s.stack p count v) × (p + count ≤ 512)) → BearsBy origins (overwritten o count w) (with_stack s stack)
unfolding overwritten
over origins w s None count v stack long was so = record {
  registers = was.registers;
  slots = λ i h m n e stands. absurd (no_slot None m refl e);
}
over origins w s (Some p) count v stack long was so = record {
  registers = was.registers;
  slots = λ i h m n e stands.
      by_test (Agrees origins m n) (nat_lt p (8 * i + 8) && nat_lt (8 * i) (p + count))
      (λ here. absurd (no_slot None m refl (sym (ap (λ (b : Bool). cond b None (w.slots i)) here) ∙ e)))
      (λ apart.
      let is = so p refl in
      was.slots i h m n (sym (ap (λ (b : Bool). cond b None (w.slots i)) apart) ∙ e)
      (stands.0, spared s.stack p count v i n long is.1 (inside p count i apart) (subst (λ (t : List (Option ℕ)). HasNumber (bytes_of t) (8 * i) n) is.0 stands.1)));
}

cut_same : (w : Width) (m n : ℕ) → m % 2 ^ 64 ≡ n % 2 ^ 64 → cut w m ≡ cut w n
cut_same w m n e = agree_narrower Full w m n e

spill_bears : (origins : ℕ → ℕ) (w : Marking) (s : State) (slot v : ℕ) (mark : Option Mark) (stack : List (Option ℕ)) → length s.stack ≡ 512 → stack ≡ stored s.stack (8 * slot) 8 v → 8 * slot + 8 ≤ 512 → BearsBy origins w s → ((m : Mark) → mark ≡ Some m → Agrees origins m v) → BearsBy origins (mark_slot slot mark w) (with_stack s stack)
spill_bears origins w s slot v mark stack long is within was agrees = record {
  registers = was.registers;
  slots = λ i h m n e stands.
      let there = subst (λ (t : List (Option ℕ)). HasNumber (bytes_of t) (8 * i) n) is stands.1 in
      by_test (Agrees origins m n) (nat_eq i slot)
      (λ here.
      let at = at_place i slot here in
      let number = subst (λ (k : ℕ). HasNumber (bytes_of (stored s.stack (8 * slot) 8 v)) (8 * k) n) at there in
      let same = one_word (stored s.stack (8 * slot) 8 v) (8 * slot) n v number (store_number s.stack (8 * slot) v long within) in
      cut_same m.width n v same ∙ agrees m (sym (ap (λ (b : Bool). cond b mark (w.slots i)) here) ∙ e))
      (λ apart.
      let other = not_place i slot apart in
      was.slots i h m n (sym (ap (λ (b : Bool). cond b mark (w.slots i)) apart) ∙ e)
      (stands.0, spared s.stack (8 * slot) 8 v i n long within (λ k from to low high. other (omega arith)) there));
}

pub spills : (at n r slot : ℕ) (w : Marking) (s : State) (content : Option Content) (stack : List (Option ℕ)) → length s.stack ≡ 512 → r < 11 → AreBelow at w → Bears w s → InRegister s r n → stack ≡ stored s.stack (8 * slot) 8 n → 8 * slot + 8 ≤ 512 → Bears (mark_slot slot (named at content (w.registers r)) (mark_register r (named at content (w.registers r)) w)) (with_stack s stack)
spills at n r slot w s content stack long h below was there is within =
    let given = name_register at n r was.0 w s content h below was.1 there in
    (given.0, spill_bears given.0 (mark_register r (named at content (w.registers r)) w) s slot n (named at content (w.registers r)) stack long is within given.1 given.2)

bytes_double : (size : Size) → size ≡ Double → bytes_in size ≡ 8
bytes_double size e = ap (λ (z : Size). bytes_in z) e

-- a store of a register: to all of a slot, or to other bytes
store_by : (at n v r : ℕ) (span : Span) (s : State) (a : AbsState) (size : Size) (reg : AbsReg) (offset : ℤ) (w : Marking) (stack : List (Option ℕ)) (o : Option ℕ) → Contains a (lengths_of span) s → AreBelow at w → Bears w s → register_of s r ≡ Ok v → Fits reg (lengths_of span) n → store span.bytes s.stack (address_of n offset) (bytes_in size) v ≡ Ok stack → slot_of size (place (rules.register_of reg) offset) ≡ o → Bears (option_map_or (λ slot. spilled at slot r (registers_of a.registers) w) o (overwritten (place (rules.register_of reg) offset) (bytes_in size) w)) (with_stack s stack)
unfolding spilled
store_by at n v r span s a size reg offset w stack None c below was held fits ran is = (
  was.0,
  over was.0 w s (place (rules.register_of reg) offset) (bytes_in size) v stack c.long was.1
      (λ p e. stack_store span.bytes s (lengths_of span) reg offset (bytes_in size) n v p fits e stack ran),
)
store_by at n v r span s a size reg offset w stack (Some slot) c below was held fits ran is =
    let so = slot_is size (place (rules.register_of reg) offset) slot is in
    let eight = bytes_double size so.0 in
    let to = stack_store span.bytes s (lengths_of span) reg offset (bytes_in size) n v (8 * slot) fits so.1 stack ran in
    spills at v r slot w s (registers_of a.registers r) stack c.long (among s r v c.eleven held) below was (holds_it s r v held)
    (to.0 ∙ ap (λ (k : ℕ). stored s.stack (8 * slot) k v) eight) (omega (arith, to.1, eight))

pub stores : (a : AbsState) (span : Span) (s next : State) (at : ℕ) (size : Size) (base : ℕ) (offset : ℤ) (value : Operand) (far : ℤ) (w : Marking) → Contains a (lengths_of span) s → AreBelow at w → Bears w s → does span s (Store size base offset value) ≡ Ok (On next far) → Bears (marks_stored at size base offset value (registers_of a.registers) w) next
unfolding marks_stored
stores a span s next at size base offset (Immediate value) far w c below was ran =
    let u = unwound (register_of s base) _ _ ran in
    let v = cast_unsigned w64 value in
    let r = unwound (store span.bytes s.stack (address_of u.0 offset) (bytes_in size) v) _ _ u.2 in
    let is = went (with_stack s r.0) next _ far _ refl r.2 in
    let reg = register_at a.registers base in (
      was.0,
      subst (λ (n : State). BearsBy was.0 (overwritten (place (rules.register_of reg) offset) (bytes_in size) w) n) (sym is)
          (over was.0 w s (place (rules.register_of reg) offset) (bytes_in size) v r.0 c.long was.1
          (λ p e. stack_store span.bytes s (lengths_of span) reg offset (bytes_in size) u.0 v p (known_of a (lengths_of span) s base u.0 c u.1) e r.0 r.1)),
    )
stores a span s next at size base offset (Source source) far w c below was ran =
    let u = unwound (register_of s base) _ _ ran in
    let t = unwound (register_of s source) _ _ u.2 in
    let r = unwound (store span.bytes s.stack (address_of u.0 offset) (bytes_in size) t.0) _ _ t.2 in
    let is = went (with_stack s r.0) next _ far _ refl r.2 in
    let reg = register_at a.registers base in
    subst (λ (n : State). Bears (option_map_or (λ slot. spilled at slot source (registers_of a.registers) w) (slot_of size (place (rules.register_of reg) offset)) (overwritten (place (rules.register_of reg) offset) (bytes_in size) w)) n) (sym is)
    (store_by at u.0 t.0 source span s a size reg offset w r.0 (slot_of size (place (rules.register_of reg) offset)) c below was t.1 (known_of a (lengths_of span) s base u.0 c u.1) r.1 refl)

-- ---- loads of all that was spilled
abbrev fine : ℕ → Result ℕ FaultKind
fine m = Ok m

ok_same : (m n : ℕ) → fine m ≡ Ok n → m ≡ n
ok_same m n e = cc

ends : (v : ℕ) (next : State) (far : ℤ) (m : Moved) → m ≡ Ok (Returns v) → m ≡ Ok (On next far) → ⊥
ends v next far m e f = cc

fill_by : (at v d slot : ℕ) (w : Marking) (s : State) (o : Option Content) → length s.registers ≡ 11 → slot < 64 → AreBelow at w → Bears w s → ((content : Content) → o ≡ Some content → InSlot s slot v) → Bears (filled at d slot o w) (with_register s d v)
unfolding filled
fill_by at v d slot w s None eleven h below was there = (was.0, bears_written was.0 w s d v None eleven was.1 (λ m e. absurd (cc)))
fill_by at v d slot w s (Some content) eleven h below was there =
    let given = name_slot at v slot was.0 w s (Some content) h below was.1 (there content refl) in
    let mark = named at (Some content) (w.slots slot) in (
      given.0,
      bears_written given.0 (mark_slot slot mark w) s d v mark eleven given.1 given.2,
    )

load_by : (at n v d : ℕ) (span : Span) (s : State) (a : AbsState) (size : Size) (reg : AbsReg) (offset : ℤ) (w : Marking) (o : Option ℕ) → Contains a (lengths_of span) s → AreBelow at w → Bears w s → Fits reg (lengths_of span) n → load span.bytes s.stack (address_of n offset) (bytes_in size) ≡ Ok v → slot_of size (place (rules.register_of reg) offset) ≡ o → Bears (option_map_or (λ slot. filled at d slot (whole_in (eight_of (slot_at a.stack slot))) w) o (mark_register d None w)) (with_register s d v)
load_by at n v d span s a size reg offset w None c below was fits ran is = (was.0, bears_written was.0 w s d v None c.eleven was.1 (λ m e. absurd (cc)))
load_by at n v d span s a size reg offset w (Some slot) c below was fits ran is =
    let so = slot_is size (place (rules.register_of reg) offset) slot is in
    let there = place_register reg (lengths_of span) offset (8 * slot) n fits so.1 in
    let by = cast_unsigned w64 offset in
    let low : (there.0 + by) % 2 ^ 64 < 512 = omega (arith, there.2, there.3) in
    let address : address_of n offset ≡ stack_base + 8 * slot = ap (λ (k : ℕ). (k + by) % 2 ^ 64) there.1 ∙ place_address there.0 by low ∙ ap (λ (k : ℕ). stack_base + k) there.2 in
    let h : slot < 64 = omega (arith, there.3) in
    fill_by at v d slot w s (whole_in (eight_of (slot_at a.stack slot))) c.eleven h below was
    (λ content e.
    let number = spilled_there (slot_at a.stack slot) (lengths_of span) (bytes_of s.stack) slot content (c.stack slot h) e in
    let back = loads_back span s.stack (address_of n offset) (8 * slot) number.0 address (omega arith) number.2 number.1 in
    let same : number.0 ≡ v = ok_same number.0 v (sym back ∙ sym (ap (λ (z : Size). load span.bytes s.stack (address_of n offset) (bytes_in z)) so.0) ∙ ran) in
    subst (λ (k : ℕ). InSlot s slot k) same (number.1, number.2))

pub loads : (a : AbsState) (span : Span) (s next : State) (at : ℕ) (size : Size) (d base : ℕ) (offset far : ℤ) (w : Marking) → Contains a (lengths_of span) s → AreBelow at w → Bears w s → does span s (Load size d base offset) ≡ Ok (On next far) → Bears (marks_loaded at size d base offset (situation_of a) w) next
unfolding marks_loaded
loads a span s next at size d base offset far w c below was ran =
    let u = unwound (register_of s base) _ _ ran in
    let t = unwound (load span.bytes s.stack (address_of u.0 offset) (bytes_in size)) _ _ u.2 in
    let is = wrote s next d t.0 _ far t.2 in
    let reg = register_at a.registers base in
    subst (λ (n : State). Bears (option_map_or (λ slot. filled at d slot (whole_in (eight_of (slot_at a.stack slot))) w) (slot_of size (place (rules.register_of reg) offset)) (mark_register d None w)) n) (sym is)
    (load_by at u.0 t.0 d span s a size reg offset w (slot_of size (place (rules.register_of reg) offset)) c below was (known_of a (lengths_of span) s base u.0 c u.1) t.1 refl)

-- ---- each instruction
arithmetics : (a : AbsState) (span : Span) (s next : State) (at : ℕ) (width : Width) (operation : Arithmetic) (d : ℕ) (o : Operand) (far : ℤ) (w : Marking) → Contains a (lengths_of span) s → AreBelow at w → Bears w s → does span s (Compute width operation d o) ≡ Ok (On next far) → Bears (arithmetic at width operation d o (registers_of a.registers) w) next
unfolding arithmetic
arithmetics a span s next at width Mov d (Source r) far w c below was ran = copies a span s next at width d r far w c below was ran
arithmetics a span s next at width Mov d (Immediate value) far w c below was ran = forgets span s next (Compute width Mov d (Immediate value)) d far w c.eleven refl ran was
arithmetics a span s next at width _ d o far w c below was ran = computes a span s next width _ d o far w c was refl ran

pub bears_on : (a : AbsState) (span : Span) (s next : State) (at : ℕ) (insn : Insn) (far : ℤ) (w : Marking) → Contains a (lengths_of span) s → AreBelow at w → Bears w s → does span s insn ≡ Ok (On next far) → Bears (followed at insn (situation_of a) w) next
unfolding followed
bears_on a span s next at (Compute width operation d o) far w c below was ran = arithmetics a span s next at width operation d o far w c below was ran
bears_on a span s next at (Negate width d) far w c below was ran = forgets span s next (Negate width d) d far w c.eleven refl ran was
bears_on a span s next at (Extend x d r) far w c below was ran = forgets span s next (Extend x d r) d far w c.eleven refl ran was
bears_on a span s next at (Convert x b d) far w c below was ran = forgets span s next (Convert x b d) d far w c.eleven refl ran was
bears_on a span s next at (Jump distance) far w c below was ran = stays w s next (went s next _ far _ refl ran) was
bears_on a span s next at (JumpLong distance) far w c below was ran = stays w s next (went s next _ far _ refl ran) was
bears_on a span s next at (Branch width comparison left right distance) far w c below was ran =
    let u = unwound (register_of s left) _ _ ran in
    let t = unwound (operand_in s right) _ _ u.2 in
    stays w s next (went s next _ far _ refl t.2) was
bears_on a span s next at (Load size d base offset) far w c below was ran = loads a span s next at size d base offset far w c below was ran
bears_on a span s next at (LoadSigned size d base offset) far w c below was ran = forgets span s next (LoadSigned size d base offset) d far w c.eleven refl ran was
bears_on a span s next at (Store size base offset value) far w c below was ran = stores a span s next at size base offset value far w c below was ran
bears_on a span s next at (LoadWide d value) far w c below was ran = forgets span s next (LoadWide d value) d far w c.eleven refl ran was
bears_on a span s next at Exit far w c below was ran = let u = unwound (register_of s 0) _ _ ran in absurd (ends u.0 next far _ refl u.2)
