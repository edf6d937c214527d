-- Loads of all that was spilled into a slot, by the rule of value_marks.
use Rattle.std.proofs.Common.{◌≡◌, ℕ, ℤ, ◌+◌, ◌*◌, ◌%◌, ◌^◌, ◌<◌, length, Option, Some, None, Result, Ok, refl, sym, ◌∙◌, ap, subst, arith}
use Rattle.std.specs.Option.{option_map_or}
use Rattle.std.specs.Int.{cast_unsigned, w64}
use Rattle.span_context.specs.declared.size.Size.{Size}
use Rattle.semantics.specs.declared.FaultKind.{FaultKind}
use Rattle.semantics.specs.State.{State}
use Rattle.semantics.specs.Memory.{address_of, load, stack_base, bytes_in}
use Rattle.abstract_state.specs.declared.state.AbsReg.{AbsReg}
use Rattle.abstract_state.specs.declared.state.AbsState.{AbsState}
use Rattle.abstract_state.specs.Lent.{Lengths}
use Rattle.abstract_state.specs.State.{Span, lengths_of, Contains, with_register, bytes_of, slot_at}
use Rattle.abstract_state.specs.Addresses.{Content}
use Rattle.abstract_state.specs.Stacks.{whole_in, eight_of}
use Rattle.abstract_state.specs.Situation as rules
use Rattle.abstract_state.proofs.Memories.{loads_back}
use Rattle.value_marks.specs.Marking.{Marking, mark_register, mark_slot, named, place, slot_of, filled}
use Rattle.value_marks.specs.Bearing.{InSlot}
use Rattle.value_marks.proofs.Machine.{place_address}
use Rattle.value_marks.proofs.Moved.{bears_written}
use Rattle.value_marks.proofs.Held.{Fits, place_register, slot_is, spilled_there}
use Rattle.length_marks.specs.Names.{BearsIn}
use Rattle.length_marks.proofs.Anew.{AreApart, name_slot}

abbrev fine : ℕ → Result ℕ FaultKind
fine m = Ok m

ok_same : (m n : ℕ) → fine m ≡ Ok n → m ≡ n
ok_same m n e = cc

fill_by : (at v d slot : ℕ) (lengths : Lengths) (w : Marking) (s : State) (o : Option Content) → at < 4096 → length s.registers ≡ 11 → slot < 64 → AreApart at w → BearsIn lengths w s → ((content : Content) → o ≡ Some content → InSlot s slot v) → BearsIn lengths (filled at d slot o w) (with_register s d v)
unfolding filled
fill_by at v d slot lengths w s None low eleven h apart was there = (was.0, was.1, bears_written was.0 w s d v None eleven was.2 (λ m e. absurd (cc)))
fill_by at v d slot lengths w s (Some content) low eleven h apart was there =
    let given = name_slot at v slot lengths w s (Some content) low h apart was (there content refl) in
    let mark = named at (Some content) (w.slots slot) in (
      given.0,
      given.1,
      bears_written given.0 (mark_slot slot mark w) s d v mark eleven given.2 given.3,
    )

pub load_by : (at n v d : ℕ) (span : Span) (s : State) (a : AbsState) (size : Size) (reg : AbsReg) (offset : ℤ) (w : Marking) (o : Option ℕ) → at < 4096 → Contains a (lengths_of span) s → AreApart at w → BearsIn (lengths_of span) w s → Fits reg (lengths_of span) n → load span.bytes s.stack (address_of n offset) (bytes_in size) ≡ Ok v → slot_of size (place (rules.register_of reg) offset) ≡ o → BearsIn (lengths_of span) (option_map_or (λ slot. filled at d slot (whole_in (eight_of (slot_at a.stack slot))) w) o (mark_register d None w)) (with_register s d v)
load_by at n v d span s a size reg offset w None low c apart was fits ran is = (was.0, was.1, bears_written was.0 w s d v None c.eleven was.2 (λ m e. absurd (cc)))
load_by at n v d span s a size reg offset w (Some slot) low c apart was fits ran is =
    let so = slot_is size (place (rules.register_of reg) offset) slot is in
    let there = place_register reg (lengths_of span) offset (8 * slot) n fits so.1 in
    let by = cast_unsigned w64 offset in
    let inside : (there.0 + by) % 2 ^ 64 < 512 = omega (arith, there.2, there.3) in
    let address : address_of n offset ≡ stack_base + 8 * slot = ap (λ (k : ℕ). (k + by) % 2 ^ 64) there.1 ∙ place_address there.0 by inside ∙ ap (λ (k : ℕ). stack_base + k) there.2 in
    let h : slot < 64 = omega (arith, there.3) in
    fill_by at v d slot (lengths_of span) w s (whole_in (eight_of (slot_at a.stack slot))) low c.eleven h apart was
    (λ content e.
    let number = spilled_there (slot_at a.stack slot) (lengths_of span) (bytes_of s.stack) slot content (c.stack slot h) e in
    let back = loads_back span s.stack (address_of n offset) (8 * slot) number.0 address (omega arith) number.2 number.1 in
    let same : number.0 ≡ v = ok_same number.0 v (sym back ∙ sym (ap (λ (z : Size). load span.bytes s.stack (address_of n offset) (bytes_in z)) so.0) ∙ ran) in
    subst (λ (k : ℕ). InSlot s slot k) same (number.1, number.2))
