-- An instruction leaves the slot as it is, and a potential doesn't speak of it.
use Rattle.std.proofs.Common.{◌≡◌, ℕ, ℤ, pos, ◌+ℤ◌, ◌-ℤ◌, ◌*ℤ◌, ◌==◌, Bool, true, false, if◌then◌else◌, List, [], ◌∷◌, length, Option, Result, Ok, Err, refl, sym, ◌∙◌, ap}
use Rattle.std.specs.Prelude.{slice_set, Some}
use Rattle.span_context.specs.Context.{SpanBytes}
use Rattle.bpf_words.specs.declared.instruction.Insn.{Insn}
use Rattle.bpf_words.specs.declared.instruction.Insn.TheVariants.{Compute, Negate, Extend, Convert, Jump, JumpLong, Branch, Load, LoadSigned, Store, LoadWide, Exit}
use Rattle.semantics.specs.declared.FaultKind.{FaultKind}
use Rattle.semantics.specs.declared.FaultKind.TheVariants.{WriteR10}
use Rattle.semantics.specs.State.{State, register_of, operand_in}
use Rattle.semantics.specs.Value.{cut, value_of, negated, extended, converted, holds_of, with_sign}
use Rattle.semantics.specs.Memory.{address_of, load, store, bytes_in, bytes_in_signed}
use Rattle.semantics.specs.Step.{Moved, On, Returns, then_with, write_and_go, first_of, perform}
use Rattle.loop_labels.specs.Potential.{Holder, InRegister, InStack, number_in, Term, counted_from, weighed, all_weighed, Potential, potential_at}

-- the slot of the state that an instruction leads to, else a given one
abbrev slot_or : ℕ → Moved → ℕ
slot_or slot (Ok (On state distance)) = state.slot
slot_or slot (Ok (Returns value)) = slot
slot_or slot (Err kind) = slot

then_kept : {A : Type 0} (slot : ℕ) (first : Result A FaultKind) (rest : A → Moved)
    → ((a : A) → slot_or slot (rest a) ≡ slot) → slot_or slot (then_with first rest) ≡ slot
then_kept slot (Ok a) rest kept = kept a
then_kept slot (Err kind) rest kept = refl

write_kept : (s : State) (register value : ℕ) (distance : ℤ)
    → slot_or s.slot (write_and_go s register value distance) ≡ s.slot
write_kept s register value distance = go (register == 10) where
  go : (b : Bool)
      → slot_or s.slot (then_with
      (if b then Err WriteR10 else Ok (record s { registers = slice_set s.registers register (Some value) }))
      (λ new. Ok (On new distance))) ≡ s.slot
  go true = refl
  go false = refl

perform_kept : (bytes : SpanBytes) (s : State) (insn : Insn) → slot_or s.slot (perform bytes s insn) ≡ s.slot
perform_kept bytes s (Compute width operation destination operand) =
    let write : ℕ → ℕ → Moved
    = λ a b. write_and_go s destination (value_of operation width (cut width a) (cut width b)) (pos 0) in
    then_kept s.slot (first_of s operation destination) (λ a. then_with (operand_in s operand) (λ b. write a b))
    (λ a. then_kept s.slot (operand_in s operand) (λ b. write a b) (λ b. write_kept s destination _ (pos 0)))
perform_kept bytes s (Negate width destination) =
    then_kept s.slot (register_of s destination)
    (λ a. write_and_go s destination (negated width (cut width a)) (pos 0)) (λ a. write_kept s destination _ (pos 0))
perform_kept bytes s (Extend extension destination source) =
    then_kept s.slot (register_of s source) (λ a. write_and_go s destination (extended extension a) (pos 0))
    (λ a. write_kept s destination _ (pos 0))
perform_kept bytes s (Convert conversion bits destination) =
    then_kept s.slot (register_of s destination)
    (λ a. write_and_go s destination (converted conversion bits a) (pos 0)) (λ a. write_kept s destination _ (pos 0))
perform_kept bytes s (Jump distance) = refl
perform_kept bytes s (JumpLong distance) = refl
perform_kept bytes s (Branch width comparison left right distance) =
    let on : ℕ → ℕ → Moved
    = λ a b. Ok (On s (if holds_of comparison width (cut width a) (cut width b) then distance else pos 0)) in
    then_kept s.slot (register_of s left) (λ a. then_with (operand_in s right) (λ b. on a b))
    (λ a. then_kept s.slot (operand_in s right) (λ b. on a b) (λ b. refl))
perform_kept bytes s (Load size destination base offset) =
    let write : ℕ → Moved = λ value. write_and_go s destination value (pos 0) in
    then_kept s.slot (register_of s base)
    (λ address. then_with (load bytes s.stack (address_of address offset) (bytes_in size)) write)
    (λ address. then_kept s.slot (load bytes s.stack (address_of address offset) (bytes_in size)) write
    (λ value. write_kept s destination value (pos 0)))
perform_kept bytes s (LoadSigned size destination base offset) =
    let write : ℕ → Moved = λ value. write_and_go s destination (with_sign size value) (pos 0) in
    then_kept s.slot (register_of s base)
    (λ address. then_with (load bytes s.stack (address_of address offset) (bytes_in_signed size)) write)
    (λ address. then_kept s.slot (load bytes s.stack (address_of address offset) (bytes_in_signed size)) write
    (λ value. write_kept s destination (with_sign size value) (pos 0)))
perform_kept bytes s (Store size base offset operand) =
    let on : List (Option ℕ) → Moved = λ stack. Ok (On (record s { stack = stack }) (pos 0)) in
    then_kept s.slot (register_of s base)
    (λ address. then_with (operand_in s operand)
    (λ value. then_with (store bytes s.stack (address_of address offset) (bytes_in size) value) on))
    (λ address. then_kept s.slot (operand_in s operand)
    (λ value. then_with (store bytes s.stack (address_of address offset) (bytes_in size) value) on)
    (λ value. then_kept s.slot (store bytes s.stack (address_of address offset) (bytes_in size) value) on
    (λ stack. refl)))
perform_kept bytes s (LoadWide destination value) = write_kept s destination value (pos 1)
perform_kept bytes s Exit = then_kept s.slot (register_of s 0) (λ value. Ok (Returns value)) (λ value. refl)

pub same_slot : (bytes : SpanBytes) (s : State) (insn : Insn) (next : State) (distance : ℤ)
    → perform bytes s insn ≡ Ok (On next distance) → next.slot ≡ s.slot
same_slot bytes s insn next distance e = sym (ap (slot_or s.slot) e) ∙ perform_kept bytes s insn

-- ---- potentials
number_moved : (s : State) (slot : ℕ) (holder : Holder) → number_in (record s { slot = slot }) holder ≡ number_in s holder
number_moved s slot (InRegister register) = refl
number_moved s slot (InStack place) = refl

all_moved : (s : State) (slot : ℕ) (terms : List Term) → all_weighed (record s { slot = slot }) terms ≡ all_weighed s terms
unfolding all_weighed
all_moved s slot [] = refl
all_moved s slot (term ∷ terms) =
    ap (λ o. term.weight *ℤ counted_from term.base o +ℤ all_weighed (record s { slot = slot }) terms)
    (number_moved s slot term.holder)
    ∙ ap (λ z. weighed s term +ℤ z) (all_moved s slot terms)

pub potential_moved : (bytes : SpanBytes) (s : State) (slot : ℕ) (p : Potential)
    → potential_at bytes (record s { slot = slot }) p ≡ potential_at bytes s p
potential_moved bytes s slot p =
    ap (λ z. (p.constant +ℤ (p.per_byte *ℤ pos (length bytes.text) +ℤ p.per_link_byte *ℤ pos (length bytes.link))) -ℤ z)
    (all_moved s slot p.less)
