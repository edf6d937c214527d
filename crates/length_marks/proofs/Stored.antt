-- Stores: the slots that they touch, and the one that they fill.
use Rattle.std.proofs.Common.{◌≡◌, ℕ, ℤ, ◌+◌, ◌-◌, ◌*◌, ◌%◌, ◌^◌, ◌<◌, ◌≤◌, Bool, false, cond, nat_lt, nat_eq, ◌&&◌, List, length, Option, Some, None, Ok, refl, sym, ◌∙◌, ap, subst, arith}
use Rattle.std.proofs.lemmas.Bool.Decides.{nat_tests}
use Rattle.std.specs.Option.{option_map_or}
use Rattle.std.specs.Int.{cast_unsigned, w64}
use Rattle.span_context.specs.Context.{SpanBytes}
use Rattle.span_context.specs.declared.size.Size.{Size}
use Rattle.bpf_words.specs.declared.instruction.Insn.TheVariants.{Store}
use Rattle.bpf_words.specs.declared.instruction.Operand.{Operand}
use Rattle.bpf_words.specs.declared.instruction.Operand.TheVariants.{Immediate, Source}
use Rattle.bpf_words.specs.declared.instruction.Width.TheVariants.{Full}
use Rattle.semantics.specs.State.{State, register_of}
use Rattle.semantics.specs.Memory.{address_of, store, stored, stack_base, bytes_in}
use Rattle.semantics.specs.Step.{On}
use Rattle.abstract_state.specs.declared.state.AbsReg.{AbsReg}
use Rattle.abstract_state.specs.declared.state.AbsState.{AbsState}
use Rattle.abstract_state.specs.Lent.{Lengths}
use Rattle.abstract_state.specs.State.{Span, lengths_of, Contains, does, with_stack, bytes_of, HasNumber, register_at}
use Rattle.abstract_state.specs.Situation.{registers_of}
use Rattle.abstract_state.specs.Situation as rules
use Rattle.abstract_state.proofs.Memories.{store_spares, store_number}
use Rattle.value_marks.specs.declared.mark.Mark.{Mark}
use Rattle.value_marks.specs.Mark.{Agrees}
use Rattle.value_marks.specs.Marking.{Marking, mark_register, mark_slot, named, place, slot_of, overwritten, spilled, stored as marks_stored}
use Rattle.value_marks.specs.Bearing.{BearsBy}
use Rattle.value_marks.proofs.Machine.{unwound, went, holds_it, stored_so, stack_within, place_in_stack}
use Rattle.value_marks.proofs.Words.{agree_narrower}
use Rattle.value_marks.proofs.Moved.{by_test, at_place, not_place, one_word}
use Rattle.value_marks.proofs.Held.{among, Fits, known_of, place_register, slot_is}
use Rattle.length_marks.specs.Names.{BearsIn}
use Rattle.length_marks.proofs.Anew.{AreApart, name_register}

inside : (p count i : ℕ) → (nat_lt p (8 * i + 8) && nat_lt (8 * i) (p + count)) ≡ false → (k : ℕ) → 8 * i ≤ k → k < 8 * i + 8 → p ≤ k → k < p + count → ⊥
inside p count i e k from to low high = grind (arith, nat_tests)

-- the number in a slot that a store doesn't touch
spared : (stack : List (Option ℕ)) (p count v i n : ℕ) → length stack ≡ 512 → p + count ≤ 512 → ((k : ℕ) → 8 * i ≤ k → k < 8 * i + 8 → p ≤ k → k < p + count → ⊥) → HasNumber (bytes_of (stored stack p count v)) (8 * i) n → HasNumber (bytes_of stack) (8 * i) n
spared stack p count v i n long within outside has j h = sym (store_spares stack p count v long within (8 * i + j) (λ low high. outside (8 * i + j) (omega arith) (omega arith) low high)) ∙ has j h

no_slot : (o : Option Mark) (m : Mark) → o ≡ None → o ≡ Some m → ⊥
no_slot o m e f = cc

-- where the stored bytes are, by the base
stack_store : (bytes : SpanBytes) (s : State) (lengths : Lengths) (reg : AbsReg) (offset : ℤ) (count n v p : ℕ) → Fits reg lengths n → place (rules.register_of reg) offset ≡ Some p → (stack : List (Option ℕ)) → store bytes s.stack (address_of n offset) count v ≡ Ok stack → (stack ≡ stored s.stack p count v) × (p + count ≤ 512)
stack_store bytes s lengths reg offset count n v p fits there stack ran =
    let at = place_register reg lengths offset p n fits there in
    let so = stored_so bytes s.stack stack (address_of n offset) count v ran in
    let by = cast_unsigned w64 offset in
    let address : address_of n offset ≡ (stack_base + at.0 + by) % 2 ^ 64 = ap (λ (k : ℕ). (k + by) % 2 ^ 64) at.1 in
    let within = stack_within (address_of n offset) count so.0 in
    let begins : address_of n offset - stack_base ≡ p = ap (λ (k : ℕ). k - stack_base) address ∙ place_in_stack at.0 by count (omega (arith, address, within.0)) (omega (arith, address, within.1)) ∙ at.2 in
    (so.1 ∙ ap (λ (k : ℕ). stored s.stack k count v) begins, omega (arith, within.0, within.1, begins))

over : (origins : ℕ → ℕ) (w : Marking) (s : State) (o : Option ℕ) (count v : ℕ) (stack : List (Option ℕ)) → length s.stack ≡ 512 → BearsBy origins w s → ((p : ℕ) → o ≡ Some p → (stack ≡ stored s.stack p count v) × (p + count ≤ 512)) → BearsBy origins (overwritten o count w) (with_stack s stack)
unfolding overwritten
over origins w s None count v stack long was so = record {
  registers = was.registers;
  slots = λ i h m n e stands. absurd (no_slot None m refl e);
}
over origins w s (Some p) count v stack long was so = record {
  registers = was.registers;
  slots = λ i h m n e stands.
      by_test (Agrees origins m n) (nat_lt p (8 * i + 8) && nat_lt (8 * i) (p + count))
      (λ here. absurd (no_slot None m refl (sym (ap (λ (b : Bool). cond b None (w.slots i)) here) ∙ e)))
      (λ apart.
      let is = so p refl in
      was.slots i h m n (sym (ap (λ (b : Bool). cond b None (w.slots i)) apart) ∙ e)
      (stands.0, spared s.stack p count v i n long is.1 (inside p count i apart) (subst (λ (t : List (Option ℕ)). HasNumber (bytes_of t) (8 * i) n) is.0 stands.1)));
}

spill_bears : (origins : ℕ → ℕ) (w : Marking) (s : State) (slot v : ℕ) (mark : Option Mark) (stack : List (Option ℕ)) → length s.stack ≡ 512 → stack ≡ stored s.stack (8 * slot) 8 v → 8 * slot + 8 ≤ 512 → BearsBy origins w s → ((m : Mark) → mark ≡ Some m → Agrees origins m v) → BearsBy origins (mark_slot slot mark w) (with_stack s stack)
spill_bears origins w s slot v mark stack long is within was agrees = record {
  registers = was.registers;
  slots = λ i h m n e stands.
      let there = subst (λ (t : List (Option ℕ)). HasNumber (bytes_of t) (8 * i) n) is stands.1 in
      by_test (Agrees origins m n) (nat_eq i slot)
      (λ here.
      let at = at_place i slot here in
      let number = subst (λ (k : ℕ). HasNumber (bytes_of (stored s.stack (8 * slot) 8 v)) (8 * k) n) at there in
      let same = one_word (stored s.stack (8 * slot) 8 v) (8 * slot) n v number (store_number s.stack (8 * slot) v long within) in
      agree_narrower Full m.width n v same ∙ agrees m (sym (ap (λ (b : Bool). cond b mark (w.slots i)) here) ∙ e))
      (λ apart.
      let other = not_place i slot apart in
      was.slots i h m n (sym (ap (λ (b : Bool). cond b mark (w.slots i)) apart) ∙ e)
      (stands.0, spared s.stack (8 * slot) 8 v i n long within (λ k from to low high. other (omega arith)) there));
}

-- a store of a register: to all of a slot, or to other bytes
store_by : (at n v r : ℕ) (span : Span) (s : State) (a : AbsState) (size : Size) (reg : AbsReg) (offset : ℤ) (w : Marking) (stack : List (Option ℕ)) (o : Option ℕ) → at < 4096 → Contains a (lengths_of span) s → AreApart at w → BearsIn (lengths_of span) w s → register_of s r ≡ Ok v → Fits reg (lengths_of span) n → store span.bytes s.stack (address_of n offset) (bytes_in size) v ≡ Ok stack → slot_of size (place (rules.register_of reg) offset) ≡ o → BearsIn (lengths_of span) (option_map_or (λ slot. spilled at slot r (registers_of a.registers) w) o (overwritten (place (rules.register_of reg) offset) (bytes_in size) w)) (with_stack s stack)
unfolding spilled
store_by at n v r span s a size reg offset w stack None low c apart was held fits ran is = (
  was.0,
  was.1,
  over was.0 w s (place (rules.register_of reg) offset) (bytes_in size) v stack c.long was.2
      (λ p e. stack_store span.bytes s (lengths_of span) reg offset (bytes_in size) n v p fits e stack ran),
)
store_by at n v r span s a size reg offset w stack (Some slot) low c apart was held fits ran is =
    let so = slot_is size (place (rules.register_of reg) offset) slot is in
    let eight : bytes_in size ≡ 8 = ap (λ (z : Size). bytes_in z) so.0 in
    let to = stack_store span.bytes s (lengths_of span) reg offset (bytes_in size) n v (8 * slot) fits so.1 stack ran in
    let content = registers_of a.registers r in
    let given = name_register at v r (lengths_of span) w s content low (among s r v c.eleven held) apart was (holds_it s r v held) in (
      given.0,
      given.1,
      spill_bears given.0 (mark_register r (named at content (w.registers r)) w) s slot v (named at content (w.registers r)) stack c.long
          (to.0 ∙ ap (λ (k : ℕ). stored s.stack (8 * slot) k v) eight) (omega (arith, to.1, eight)) given.2 given.3,
    )

pub stores : (a : AbsState) (span : Span) (s next : State) (at : ℕ) (size : Size) (base : ℕ) (offset : ℤ) (value : Operand) (far : ℤ) (w : Marking) → at < 4096 → Contains a (lengths_of span) s → AreApart at w → BearsIn (lengths_of span) w s → does span s (Store size base offset value) ≡ Ok (On next far) → BearsIn (lengths_of span) (marks_stored at size base offset value (registers_of a.registers) w) next
unfolding marks_stored
stores a span s next at size base offset (Immediate value) far w low c apart was ran =
    let u = unwound (register_of s base) _ _ ran in
    let v = cast_unsigned w64 value in
    let r = unwound (store span.bytes s.stack (address_of u.0 offset) (bytes_in size) v) _ _ u.2 in
    let is = went (with_stack s r.0) next _ far _ refl r.2 in
    let reg = register_at a.registers base in (
      was.0,
      was.1,
      subst (λ (n : State). BearsBy was.0 (overwritten (place (rules.register_of reg) offset) (bytes_in size) w) n) (sym is)
          (over was.0 w s (place (rules.register_of reg) offset) (bytes_in size) v r.0 c.long was.2
          (λ p e. stack_store span.bytes s (lengths_of span) reg offset (bytes_in size) u.0 v p (known_of a (lengths_of span) s base u.0 c u.1) e r.0 r.1)),
    )
stores a span s next at size base offset (Source source) far w low c apart was ran =
    let u = unwound (register_of s base) _ _ ran in
    let t = unwound (register_of s source) _ _ u.2 in
    let r = unwound (store span.bytes s.stack (address_of u.0 offset) (bytes_in size) t.0) _ _ t.2 in
    let is = went (with_stack s r.0) next _ far _ refl r.2 in
    let reg = register_at a.registers base in
    subst (λ (n : State). BearsIn (lengths_of span) (option_map_or (λ slot. spilled at slot source (registers_of a.registers) w) (slot_of size (place (rules.register_of reg) offset)) (overwritten (place (rules.register_of reg) offset) (bytes_in size) w)) n) (sym is)
    (store_by at u.0 t.0 source span s a size reg offset w r.0 (slot_of size (place (rules.register_of reg) offset)) low c apart was t.1 (known_of a (lengths_of span) s base u.0 c u.1) r.1 refl)
