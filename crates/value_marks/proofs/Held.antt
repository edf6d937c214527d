-- What registers hold, by what is known of them.
use Rattle.std.proofs.Common.{◌≡◌, ℕ, ℤ, ◌+◌, ◌*◌, ◌/◌, ◌%◌, ◌^◌, ◌<◌, ◌≤◌, true, cond, nat_eq, nat_lt, length, get_or, Option, Some, None, Ok, refl, sym, ◌∙◌, ap, subst, arith}
use Rattle.std.proofs.lemmas.Bool.Decides.{nat_tests}
use Rattle.std.proofs.lemmas.Option.{slice_get_within}
use Rattle.std.specs.List.{slice_get}
use Rattle.std.specs.Int.{cast_unsigned, w64}
use Rattle.span_context.specs.declared.size.Size.{Size}
use Rattle.span_context.specs.declared.size.Size.TheVariants.{Byte, Half, Word, Double}
use Rattle.bpf_words.specs.declared.instruction.Operand.{Operand}
use Rattle.bpf_words.specs.declared.instruction.Operand.TheVariants.{Immediate, Source}
use Rattle.semantics.specs.State.{State, set_value, register_of, operand_in}
use Rattle.semantics.specs.Memory.{stack_base}
use Rattle.abstract_state.specs.declared.known.Known.{Known}
use Rattle.abstract_state.specs.declared.known.Known.TheVariants.{Number, Context, Stack, Lent}
use Rattle.abstract_state.specs.declared.slot.Slot.{Slot}
use Rattle.abstract_state.specs.declared.slot.Slot.TheVariants.{Marks, Spilled}
use Rattle.abstract_state.specs.declared.state.AbsReg.{AbsReg}
use Rattle.abstract_state.specs.declared.state.AbsReg.TheVariants.{Unset, Set}
use Rattle.abstract_state.specs.declared.state.AbsState.{AbsState}
use Rattle.abstract_state.specs.Lent.{Lengths}
use Rattle.abstract_state.specs.Known.{ContainsKnown}
use Rattle.abstract_state.specs.State.{Contains, ContainsRegister, ContainsSlot, Bytes, HasNumber, register_at}
use Rattle.abstract_state.specs.Estimate.{Estimate, only, estimate_of}
use Rattle.abstract_state.specs.Addresses.{Content}
use Rattle.abstract_state.specs.Stacks.{eight_of, whole_in}
use Rattle.abstract_state.specs.Situation.{operand_of, registers_of, read}
use Rattle.abstract_state.specs.Situation as rules
use Rattle.abstract_state.proofs.Addresses.{known_fits}
use Rattle.value_marks.specs.Marking.{exactly, fits_narrow, place, below_512, slot_of, whole_slot}
use Rattle.value_marks.proofs.Machine.{holds_it}
use Rattle.value_marks.proofs.Moved.{some_same}

-- a register that is set is one of the eleven
pub among : (s : State) (r n : ℕ) → length s.registers ≡ 11 → register_of s r ≡ Ok n → r < 11
among s r n eleven e = let h = slice_get_within s.registers r (Some n) (found (slice_get s.registers r) e) in omega arith
  where
    found : (o : Option (Option ℕ)) → set_value o ≡ Ok n → o ≡ Some (Some n)
    found None f = absurd (cc)
    found (Some None) f = absurd (cc)
    found (Some (Some m)) f = let same : m ≡ n = cc in ap (λ (k : ℕ). Some (Some k)) same

-- what is known of it contains its number
abbrev pub Fits : AbsReg → Lengths → ℕ → Type 0
Fits reg lengths n = (k : Known) → reg ≡ Set k → ContainsKnown k lengths n

pub known_of : (a : AbsState) (lengths : Lengths) (s : State) (r n : ℕ) → Contains a lengths s → register_of s r ≡ Ok n → Fits (register_at a.registers r) lengths n
known_of a lengths s r n c e k is =
    let held = subst (λ (v : AbsReg). ContainsRegister v lengths (get_or s.registers r None)) is (c.registers r (among s r n c.eleven e)) in
    let same : held.0 ≡ n = some_same _ _ (sym held.1 ∙ holds_it s r n e) in
    subst (λ (m : ℕ). ContainsKnown k lengths m) same held.2

-- ---- the one number
only_is : (low high n : ℕ) → cond (nat_eq low high) (Some low) None ≡ Some n → (low ≡ n) × (high ≡ n)
only_is low high n e = grind (arith, nat_tests)

pub only_so : (a : Estimate) (n : ℕ) → only a ≡ Some n → (a.range.low ≡ n) × (a.range.high ≡ n)
unfolding only
only_so a n e = only_is a.range.low a.range.high n e

exact_register : (reg : AbsReg) (lengths : Lengths) (n y : ℕ) → Fits reg lengths y → exactly (read (rules.register_of reg)) ≡ Some n → y ≡ n
exact_register Unset lengths n y fits e = absurd (cc)
exact_register (Set (Number q)) lengths n y fits e =
    let ends = only_so (estimate_of q) n e in
    let c = fits (Number q) refl in
    let low : q.range.low ≤ y = c.range.low in
    let high : y ≤ q.range.high = c.range.high in
    omega (arith, ends.0, ends.1)
exact_register (Set (Context p)) lengths n y fits e = absurd (cc)
exact_register (Set (Stack p)) lengths n y fits e = absurd (cc)
exact_register (Set (Lent p)) lengths n y fits e = absurd (cc)

only_constant : (n m : ℕ) → cond (nat_eq n n) (Some n) None ≡ Some m → n ≡ m
only_constant n m e = grind (arith, nat_tests)

-- an operand of which one number is known is that
pub exact_operand : (a : AbsState) (lengths : Lengths) (s : State) (o : Operand) (n y : ℕ) → Contains a lengths s → operand_in s o ≡ Ok y → exactly (operand_of (registers_of a.registers) o) ≡ Some n → y ≡ n
unfolding only
exact_operand a lengths s (Immediate value) n y c e is =
    let same : cast_unsigned w64 value ≡ y = cc in
    sym same ∙ only_constant (cast_unsigned w64 value) n is
exact_operand a lengths s (Source r) n y c e is = exact_register (register_at a.registers r) lengths n y (known_of a lengths s r y c e) is

-- ---- a number of 32 bits
below_true : (m n : ℕ) → nat_lt m n ≡ true → m < n
below_true m n e = grind (arith, nat_tests)

pub narrow_register : (reg : AbsReg) (lengths : Lengths) (y : ℕ) → Fits reg lengths y → fits_narrow (rules.register_of reg) ≡ true → y < 2 ^ 32
narrow_register Unset lengths y fits e = absurd (cc)
narrow_register (Set (Number q)) lengths y fits e =
    let c = fits (Number q) refl in
    let high : y ≤ q.range.high = c.range.high in
    let less = below_true q.range.high (2 ^ 32) e in
    omega arith
narrow_register (Set (Context p)) lengths y fits e = absurd (cc)
narrow_register (Set (Stack p)) lengths y fits e = absurd (cc)
narrow_register (Set (Lent p)) lengths y fits e = absurd (cc)

-- ---- a place in the stack
pub below_is : (p q : ℕ) → below_512 p ≡ Some q → (p ≡ q) × (p < 512)
below_is p q e = grind (arith, nat_tests)

pub place_register : (reg : AbsReg) (lengths : Lengths) (offset : ℤ) (p y : ℕ) → Fits reg lengths y → place (rules.register_of reg) offset ≡ Some p → (q : ℕ) × (y ≡ stack_base + q) × ((q + cast_unsigned w64 offset) % 2 ^ 64 ≡ p) × (p < 512)
unfolding place
place_register Unset lengths offset p y fits e = absurd (cc)
place_register (Set (Number q)) lengths offset p y fits e = absurd (cc)
place_register (Set (Context q)) lengths offset p y fits e = absurd (cc)
place_register (Set (Stack q)) lengths offset p y fits e =
    let c = fits (Stack q) refl in
    let b = below_is ((q.offset + cast_unsigned w64 offset) % 2 ^ 64) p e in
    (q.offset, c, b.0, omega (arith, b.0, b.1))
place_register (Set (Lent q)) lengths offset p y fits e = absurd (cc)

whole_is : (p slot : ℕ) → whole_slot p ≡ Some slot → p ≡ 8 * slot
whole_is p slot e = let t : (p % 8 ≡ 0) × (p / 8 ≡ slot) = grind (arith, nat_tests) in omega (arith, t.0, t.1)

whole_at : (o : Option ℕ) (slot : ℕ) → slot_of Double o ≡ Some slot → o ≡ Some (8 * slot)
unfolding slot_of
whole_at None slot e = absurd (cc)
whole_at (Some p) slot e = ap (λ (k : ℕ). Some k) (whole_is p slot e)

pub slot_is : (size : Size) (o : Option ℕ) (slot : ℕ) → slot_of size o ≡ Some slot → (size ≡ Double) × (o ≡ Some (8 * slot))
unfolding slot_of
slot_is Byte o slot e = absurd (cc)
slot_is Half o slot e = absurd (cc)
slot_is Word o slot e = absurd (cc)
slot_is Double o slot e = (refl, whole_at o slot e)

-- ---- what was spilled stands in its slot
pub spilled_there : (slot : Slot) (lengths : Lengths) (bytes : Bytes) (i : ℕ) (content : Content) → ContainsSlot slot lengths bytes i → whole_in (eight_of slot) ≡ Some content → (n : ℕ) × (n < 2 ^ 64) × HasNumber bytes (8 * i) n
spilled_there (Marks marks) lengths bytes i content c e = absurd (cc)
spilled_there (Spilled k) lengths bytes i content (n, held, number) e = (n, known_fits k lengths n held, number)
