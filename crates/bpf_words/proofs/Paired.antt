-- In a program, wide loads and their second slots go together.
use Rattle.std.proofs.Common.{◌≡◌, ℕ, ◌+◌, ◌/◌, ◌<◌, ◌≤◌, if◌then◌else◌, List, length, Option, Some, None, Ok, Err, Bool, true, false, refl, ap, sym, ◌∙◌, subst, arith, ⊎_elim}
use Rattle.std.specs.List.{slice_get}
use Rattle.std.proofs.lemmas.Bool.{cases_lt}
use Rattle.std.proofs.lemmas.Bool.Decides.{nat_tests}
use Rattle.std.proofs.lemmas.Option.{slice_get_within, same_Some, none-some}
use Rattle.bpf_words.specs.declared.instruction.Insn.{Insn}
use Rattle.bpf_words.specs.declared.instruction.Insn.TheVariants.{Compute, Negate, Extend, Convert, Jump, JumpLong, Branch, Load, LoadSigned, Store, LoadWide, Exit}
use Rattle.bpf_words.specs.Opcodes.{opcode_of}
use Rattle.bpf_words.specs.Slots.{slot_at, fields_of}
use Rattle.bpf_words.specs.Reading.{Read}
use Rattle.bpf_words.specs.Words.{IsProgram, fault_in, insn_in, insn_at, is_second, is_wide, next_slot, read_at, program_of}
use Rattle.bpf_words.specs.Flow.{IsPaired, slots_of}
use Rattle.bpf_words.proofs.Second.{reading-ends, program-entry, length-program_of}
use Rattle.bpf_words.proofs.Sound.{is_second-next, is_second-zero}

-- what stands at a slot of the program
entry_of : (bytes : List ℕ) (index : ℕ) (entry : Option Insn) → slice_get (program_of bytes) index ≡ Some entry → (index < length bytes / 8) × (insn_at bytes index ≡ entry)
entry_of bytes index entry e =
    let within = slice_get_within (program_of bytes) index entry e in
    let below : index < length bytes / 8 = subst (λ n. index < n) (length-program_of bytes) within in
    (below, same_Some (insn_at bytes index) entry (sym (program-entry bytes index below) ∙ e))

-- a slot without an instruction that isn't at fault is the second of a wide load
no_insn : (second : Bool) (read : Read) → fault_in second read ≡ None → insn_in second read ≡ None → second ≡ true
no_insn true read sound none = refl
no_insn false (Ok insn) sound none = absurd (cc)
no_insn false (Err fault) sound none = absurd (cc)

some_insn : (second : Bool) (read : Read) (insn : Insn) → insn_in second read ≡ Some insn → (second ≡ false) × (read ≡ Ok insn)
some_insn true read insn e = absurd (cc)
some_insn false (Ok other) insn e = (refl, ap Ok (same_Some other insn e))
some_insn false (Err fault) insn e = absurd (cc)

is_second-split : (before : Bool) (read : Read) → (if before then false else is_wide read) ≡ true → (before ≡ false) × (is_wide read ≡ true)
is_second-split true read e = absurd (cc)
is_second-split false read e = (refl, e)

wide_of : (read : Read) → is_wide read ≡ true → (insn : Insn) × (read ≡ Ok insn) × (slots_of insn ≡ 2)
wide_of (Ok (Compute width operation destination operand)) e = absurd (cc)
wide_of (Ok (Negate width destination)) e = absurd (cc)
wide_of (Ok (Extend extension destination source)) e = absurd (cc)
wide_of (Ok (Convert conversion bits destination)) e = absurd (cc)
wide_of (Ok (Jump distance)) e = absurd (cc)
wide_of (Ok (JumpLong distance)) e = absurd (cc)
wide_of (Ok (Branch width comparison left right distance)) e = absurd (cc)
wide_of (Ok (Load size destination base offset)) e = absurd (cc)
wide_of (Ok (LoadSigned size destination base offset)) e = absurd (cc)
wide_of (Ok (Store size base offset value)) e = absurd (cc)
wide_of (Ok (LoadWide destination value)) e = (LoadWide destination value, refl, refl)
wide_of (Ok Exit) e = absurd (cc)
wide_of (Err fault) e = absurd (cc)

two_slots : (insn : Insn) → slots_of insn ≡ 2 → is_wide (Ok insn) ≡ true
two_slots (Compute width operation destination operand) e = absurd (omega arith)
two_slots (Negate width destination) e = absurd (omega arith)
two_slots (Extend extension destination source) e = absurd (omega arith)
two_slots (Convert conversion bits destination) e = absurd (omega arith)
two_slots (Jump distance) e = absurd (omega arith)
two_slots (JumpLong distance) e = absurd (omega arith)
two_slots (Branch width comparison left right distance) e = absurd (omega arith)
two_slots (Load size destination base offset) e = absurd (omega arith)
two_slots (LoadSigned size destination base offset) e = absurd (omega arith)
two_slots (Store size base offset value) e = absurd (omega arith)
two_slots (LoadWide destination value) e = refl
two_slots Exit e = absurd (omega arith)

next_slot-past : (bytes : List ℕ) (index : ℕ) → length bytes / 8 ≤ index → next_slot bytes index ≡ None
next_slot-past bytes index h = grind (arith, nat_tests)

-- a wide load that was read has a slot after it
has_next : (bytes : List ℕ) (index : ℕ) → is_wide (read_at bytes index) ≡ true → index + 1 < length bytes / 8
unfolding read_at
has_next bytes index wide =
    let ends = reading-ends (opcode_of (fields_of (slot_at bytes index)).opcode) (fields_of (slot_at bytes index)) (next_slot bytes (index + 1)) wide in
    ⊎_elim
    (λ (within : index + 1 < length bytes / 8). within)
    (λ (past : length bytes / 8 ≤ index + 1). absurd (none-some ends.0 (sym (next_slot-past bytes (index + 1) past) ∙ ends.1)))
    (cases_lt (index + 1) (length bytes / 8))

pub program_of-paired : (bytes : List ℕ) → IsProgram bytes → IsPaired (program_of bytes)
program_of-paired bytes program = record {
  begins = λ e.
      let at = entry_of bytes 0 None e in
      let second = no_insn (is_second bytes 0) (read_at bytes 0) (program.sound 0 at.0) at.1 in
      let first = is_second-zero bytes in
      absurd (cc);
  after_wide = λ slot (insn, there, two).
      let at = entry_of bytes slot (Some insn) there in
      let one = some_insn (is_second bytes slot) (read_at bytes slot) insn at.1 in
      let wide : is_wide (read_at bytes slot) ≡ true = ap is_wide one.1 ∙ two_slots insn two in
      let within = has_next bytes slot wide in
      let second : is_second bytes (slot + 1) ≡ true = is_second-next bytes slot ∙ ap (λ b. if b then false else is_wide (read_at bytes slot)) one.0 ∙ wide in
      program-entry bytes (slot + 1) within ∙ ap (λ b. Some (insn_in b (read_at bytes (slot + 1)))) second;
  wide_before = λ slot e.
      let at = entry_of bytes (slot + 1) None e in
      let second = no_insn (is_second bytes (slot + 1)) (read_at bytes (slot + 1)) (program.sound (slot + 1) at.0) at.1 in
      let split = is_second-split (is_second bytes slot) (read_at bytes slot) (sym (is_second-next bytes slot) ∙ second) in
      let wide = wide_of (read_at bytes slot) split.1 in
      let within : slot < length bytes / 8 = omega (arith, at.0) in (
        wide.0,
        program-entry bytes slot within ∙ ap (λ b. Some (insn_in b (read_at bytes slot))) split.0 ∙ ap (λ r. Some (insn_in false r)) wide.1,
        wide.2,
      );
}
