-- What holders hold in the machine, by what is known of them.
use Rattle.std.proofs.Common.{◌≡◌, ℕ, ℤ, pos, ◌+◌, ◌*◌, ◌%◌, ◌^◌, ◌≤◌, ◌<◌, ◌-ℤ◌, List, [], length, get_or, Option, Some, None, option_and_then, refl, sym, ap, subst, ◌∙◌, ⊎_elim, arith}
use Rattle.std.proofs.lemmas.Int.{ints}
use Rattle.std.proofs.lemmas.Bool.{cases_lt}
use Rattle.std.proofs.lemmas.List.{get_or_past}
use Rattle.semantics.specs.State.{State}
use Rattle.semantics.specs.Memory.{stack_number}
use Rattle.loop_labels.specs.Potential as labels
use Rattle.abstract_state.specs.declared.region.Region.{Region}
use Rattle.abstract_state.specs.declared.region.Region.TheVariants as region
use Rattle.abstract_state.specs.declared.quantity.Quantity.{Quantity}
use Rattle.abstract_state.specs.declared.known.Known.{Known}
use Rattle.abstract_state.specs.declared.known.Known.TheVariants.{Number, Context, Stack, Lent}
use Rattle.abstract_state.specs.declared.address.LentAddress.{LentAddress}
use Rattle.abstract_state.specs.declared.slot.Slot.{Slot}
use Rattle.abstract_state.specs.declared.slot.Slot.TheVariants.{Marks, Spilled}
use Rattle.abstract_state.specs.declared.state.AbsReg.{AbsReg}
use Rattle.abstract_state.specs.declared.state.AbsReg.TheVariants.{Unset, Set}
use Rattle.abstract_state.specs.declared.state.AbsState.{AbsState}
use Rattle.abstract_state.specs.Lent.{Lengths, base_of as region_base}
use Rattle.abstract_state.specs.Known.{ContainsKnown}
use Rattle.abstract_state.specs.Quantity.{Contains as ContainsNumber}
use Rattle.abstract_state.specs.State.{Contains, ContainsRegister, ContainsSlot, bytes_of, register_at, slot_at}
use Rattle.abstract_state.proofs.Addresses.{known_fits}
use Rattle.abstract_state.proofs.Loads.{number_back}
use Rattle.label_potentials.specs.declared.potential.Holder.{Holder}
use Rattle.label_potentials.specs.declared.potential.Holder.TheVariants.{Register, StackSlot}
use Rattle.label_potentials.specs.declared.potential.Base.{Base}
use Rattle.label_potentials.specs.declared.potential.Base.TheVariants.{Zero, Text, Link}
use Rattle.label_potentials.specs.Views.{holder_of, base_of}
use Rattle.label_potentials.specs.Counts.{known_of, spilled_in, held_in, offset_in, number_from, counted_from, counted_in, Counts}

-- what is known is known of the holder's number, in each contained state
abbrev pub IsHeld : AbsState → Holder → Known → Type 0
IsHeld a holder known =
    (lengths : Lengths) (s : State) → Contains a lengths s
    → (n : ℕ) × (labels.number_in s (holder_of holder) ≡ Some n) × ContainsKnown known lengths n

-- ---- registers and slots of the stack
pub register_holds : (reg : AbsReg) (k : Known) (lengths : Lengths) (o : Option ℕ) → known_of reg ≡ Some k
    → ContainsRegister reg lengths o → (n : ℕ) × (o ≡ Some n) × ContainsKnown k lengths n
register_holds Unset k lengths o e c = absurd (cc)
register_holds (Set j) k lengths o e (n, is, held) =
    let same : j ≡ k = cc in (n, is, subst (λ (v : Known). ContainsKnown v lengths n) same held)

pub slot_holds : (slot : Slot) (k : Known) (lengths : Lengths) (stack : List (Option ℕ)) (i : ℕ)
    → spilled_in slot ≡ Some k → ContainsSlot slot lengths (bytes_of stack) i
    → (n : ℕ) × (stack_number stack (8 * i) 8 ≡ Some n) × ContainsKnown k lengths n
slot_holds (Marks marks) k lengths stack i e c = absurd (cc)
slot_holds (Spilled j) k lengths stack i e (n, held, number) =
    let same : j ≡ k = cc in
    let fits : n < 2 ^ 64 = known_fits j lengths n held in
    let whole : n % 256 ^ 8 ≡ n = omega arith in (
      n,
      number_back stack (8 * i) 8 n number ∙ ap (λ (m : ℕ). Some m) whole,
      subst (λ (v : Known). ContainsKnown v lengths n) same held,
    )

-- what is known is there of eleven registers and 64 slots
pub record IsWhole (a : AbsState) : Type 0 where
  pub registers : length a.registers ≡ 11
  pub stack : length a.stack ≡ 64

no_register : (a : AbsState) (r : ℕ) (k : Known) → length a.registers ≤ r
    → known_of (register_at a.registers r) ≡ Some k → ⊥
no_register a r k h e =
    let none : known_of (register_at a.registers r) ≡ None = ap known_of (get_or_past a.registers r Unset h) in
    absurd (cc (none, e))

no_slot : (a : AbsState) (i : ℕ) (k : Known) → length a.stack ≤ i → spilled_in (slot_at a.stack i) ≡ Some k → ⊥
no_slot a i k h e =
    let none : spilled_in (slot_at a.stack i) ≡ None = ap spilled_in (get_or_past a.stack i (Marks []) h) in
    absurd (cc (none, e))

pub held_sound : (a : AbsState) (holder : Holder) (k : Known) → IsWhole a → held_in a holder ≡ Some k → IsHeld a holder k
held_sound a (Register r) k whole e lengths s c =
    let eleven = whole.registers in
    ⊎_elim (λ (h : r < 11). register_holds (register_at a.registers r) k lengths (get_or s.registers r None) e (c.registers r h))
    (λ (h : 11 ≤ r). absurd (no_register a r k (omega arith) e)) (cases_lt r 11)
held_sound a (StackSlot i) k whole e lengths s c =
    let long = whole.stack in
    ⊎_elim (λ (h : i < 64). slot_holds (slot_at a.stack i) k lengths s.stack i e (c.stack i h))
    (λ (h : 64 ≤ i). absurd (no_slot a i k (omega arith) e)) (cases_lt i 64)

-- ---- counted from a base
from_zero : (n : ℕ) → pos n -ℤ pos 0 ≡ pos n
from_zero n = omega (arith, ints)

from_base : (n base x : ℕ) → n ≡ base + x → pos n -ℤ pos base ≡ pos x
from_base n base x e = omega (arith, ints)

abbrev Counted : Base → Quantity → Lengths → ℕ → Type 0
Counted base q lengths n =
    (x : ℕ) × (labels.counted_from (base_of base) (Some n) ≡ pos x) × ContainsNumber q lengths x

offset_counted : (base : Base) (address : LentAddress) (r : Region) (q : Quantity) (lengths : Lengths) (n x : ℕ)
    → offset_in base address r ≡ Some q → n ≡ region_base r + x → ContainsNumber address.offset lengths x
    → Counted base q lengths n
offset_counted Zero address r q lengths n x e at c = absurd (cc)
offset_counted Text address region.Text q lengths n x e at c =
    let same : address.offset ≡ q = cc in
    (x, from_base n (region_base region.Text) x at, subst (λ (v : Quantity). ContainsNumber v lengths x) same c)
offset_counted Text address region.Link q lengths n x e at c = absurd (cc)
offset_counted Link address region.Text q lengths n x e at c = absurd (cc)
offset_counted Link address region.Link q lengths n x e at c =
    let same : address.offset ≡ q = cc in
    (x, from_base n (region_base region.Link) x at, subst (λ (v : Quantity). ContainsNumber v lengths x) same c)

known_counted : (base : Base) (k : Known) (q : Quantity) (lengths : Lengths) (n : ℕ)
    → counted_from base k ≡ Some q → ContainsKnown k lengths n → Counted base q lengths n
known_counted Zero (Number p) q lengths n e c =
    let same : p ≡ q = cc in (n, from_zero n, subst (λ (v : Quantity). ContainsNumber v lengths n) same c)
known_counted Text (Number p) q lengths n e c = absurd (cc)
known_counted Link (Number p) q lengths n e c = absurd (cc)
known_counted base (Lent address) q lengths n e (x, at, c) =
    offset_counted base address address.region q lengths n x e at c
known_counted base (Context p) q lengths n e c = absurd (cc)
known_counted base (Stack p) q lengths n e c = absurd (cc)

counts : (a : AbsState) (holder : Holder) (base : Base) (k : Known) (q : Quantity) → IsHeld a holder k
    → counted_from base k ≡ Some q → Counts a holder base q
counts a holder base k q held e lengths s c =
    let n = held lengths s c in
    let x = known_counted base k q lengths n.0 e n.2 in
    (x.0, ap (labels.counted_from (base_of base)) n.1 ∙ x.1, x.2)

pub counted_sound : (a : AbsState) (holder : Holder) (base : Base) (q : Quantity) → IsWhole a
    → counted_in a holder base ≡ Some q → Counts a holder base q
counted_sound a holder base q whole e = go (held_in a holder) refl e
  where
    go : (o : Option Known) → held_in a holder ≡ o → option_and_then (counted_from base) o ≡ Some q
        → Counts a holder base q
    go None is f = absurd (cc)
    go (Some k) is f = counts a holder base k q (held_sound a holder k whole is) f
