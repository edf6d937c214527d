-- The bytes of a program are those of its instructions, one after the other.
use Rattle.std.proofs.Common.{◌≡◌, ℕ, zero, suc, ◌+◌, ◌*◌, ◌/◌, ◌<◌, Bool, true, false, List, ◌∷◌, ◌++◌, length, map, drop, Option, Some, None, Ok, Err, refl, sym, ap, subst, ◌∙◌, add-one, arith}
use Rattle.std.specs.Prelude.{if◌then◌else◌, flat_map}
use Rattle.std.specs.List.{range_with_len}
use Rattle.std.proofs.lemmas.List.{drop_all}
use Rattle.std.proofs.lemmas.List.Folds.{drop_split}
use Rattle.bpf_words.specs.declared.instruction.Insn.{Insn}
use Rattle.bpf_words.specs.declared.instruction.Insn.TheVariants.{Compute, Negate, Extend, Convert, Jump, JumpLong, Branch, Load, LoadSigned, Store, LoadWide, Exit}
use Rattle.bpf_words.specs.Encoding.{encoded}
use Rattle.bpf_words.specs.Reading.{Read}
use Rattle.bpf_words.specs.RoundTrip.{StandsAt, Stands, AllStand}
use Rattle.bpf_words.specs.Words.{IsProgram, read_at, is_wide, is_second, fault_in, fault_at, insn_at, program_of}
use Rattle.assembler.specs.Text.{AsmText}
use Rattle.disassembler.specs.Canonical.{canonical}
use Rattle.disassembler.proofs.Fitting.{EachFits}
use Rattle.disassembler.proofs.Whole.{entry_bytes, text_again}

-- how many bytes of a wide load are left at its second slot
abbrev left : Bool → ℕ
left second = if second then 8 else 0

encoded_length : (insn : Insn) → length (encoded insn) ≡ 8 + left (is_wide (Ok insn))
unfolding encoded
encoded_length (Compute width operation destination operand) = refl
encoded_length (Negate width destination) = refl
encoded_length (Extend extension destination source) = refl
encoded_length (Convert conversion bits destination) = refl
encoded_length (Jump distance) = refl
encoded_length (JumpLong distance) = refl
encoded_length (Branch width comparison left right distance) = refl
encoded_length (Load size destination base offset) = refl
encoded_length (LoadSigned size destination base offset) = refl
encoded_length (Store size base offset value) = refl
encoded_length (LoadWide destination value) = refl
encoded_length Exit = refl

by_read : (read : Read) → fault_in false read ≡ None → (insn : Insn) × (read ≡ Ok insn)
by_read (Ok insn) h = (insn, refl)
by_read (Err fault) h = absurd (cc)

-- a right slot that isn't the second of a wide load reads as an instruction
right_slot : (bytes : List ℕ) (index : ℕ) → is_second bytes index ≡ false → fault_at bytes index ≡ None → (insn : Insn) × (read_at bytes index ≡ Ok insn)
right_slot bytes index first h = by_read (read_at bytes index) (rw first at h)

second_begins : (bytes : List ℕ) (index : ℕ) (insn : Insn) → is_second bytes index ≡ false → read_at bytes index ≡ Ok insn → is_second bytes (index + 1) ≡ is_wide (Ok insn)
unfolding is_second
second_begins bytes index insn first h = rw (add-one, first, h) refl

second_ends : (bytes : List ℕ) (index : ℕ) → is_second bytes index ≡ true → is_second bytes (index + 1) ≡ false
unfolding is_second
second_ends bytes index second = rw (add-one, second) refl

none_second : (bytes : List ℕ) → is_second bytes 0 ≡ false
unfolding is_second
none_second bytes = refl

joins : (bytes part rest : List ℕ) (offset next : ℕ) → StandsAt bytes offset part → next ≡ offset + length part → rest ≡ drop next bytes → part ++ rest ≡ drop offset bytes
joins bytes part rest offset next stands behind h =
    rw (h, behind) (sym (drop_split bytes offset (offset + length part) (omega arith) ∙ ap (λ (front : List ℕ). front ++ drop (offset + length part) bytes) stands))

-- from a slot on, the instructions' bytes are the bytes from there on
from_slot : (bytes : List ℕ) → IsProgram bytes → AllStand bytes (length bytes / 8) → (n index : ℕ) (second : Bool) → index + n ≡ length bytes / 8
    → is_second bytes index ≡ second → flat_map entry_bytes (map (insn_at bytes) (range_with_len index n)) ≡ drop (8 * index + left second) bytes
from_slot bytes program all zero index second e s = let w = program.whole.eights in sym (drop_all (8 * index + left second) bytes (omega arith))
from_slot bytes program all (suc n) index true e s =
    let offset : 8 * (index + 1) + 0 ≡ 8 * index + 8 = omega arith in
    rw s (from_slot bytes program all n (index + 1) false (omega arith) (second_ends bytes index s) ∙ ap (λ (k : ℕ). drop k bytes) offset)
from_slot bytes program all (suc n) index false e s =
    let within : index < length bytes / 8 = omega arith in
    let read = right_slot bytes index s (program.sound index within) in
    let same : insn_at bytes index ≡ Some read.0 = rw (s, read.1) refl in
    let stands : Stands bytes index (Some read.0) = subst (Stands bytes index) same (all.each index within) in
    let long = encoded_length read.0 in
    let offset : 8 * index + 0 ≡ 8 * index = omega arith in
    let rest = from_slot bytes program all n (index + 1) (is_wide (Ok read.0)) (omega arith) (second_begins bytes index read.0 s read.1) in
    rw (s, read.1) (joins bytes (encoded read.0) (flat_map entry_bytes (map (insn_at bytes) (range_with_len (index + 1) n))) (8 * index)
    (8 * (index + 1) + left (is_wide (Ok read.0))) stands.1 (omega arith) rest ∙ ap (λ (k : ℕ). drop k bytes) (sym offset))

fits_more : (bytes : List ℕ) (index : ℕ) (entry : Option Insn) (program : List (Option Insn)) → Stands bytes index entry → EachFits program → EachFits (entry ∷ program)
fits_more bytes index None program stands h = h
fits_more bytes index (Some insn) program stands h = (stands.0, h)

fits_from : (bytes : List ℕ) (n index count : ℕ) → AllStand bytes count → index + n ≡ count → EachFits (map (insn_at bytes) (range_with_len index n))
fits_from bytes zero index count all e = tt
fits_from bytes (suc n) index count all e =
    fits_more bytes index (insn_at bytes index) (map (insn_at bytes) (range_with_len (index + 1) n)) (all.each index (omega arith)) (fits_from bytes n (index + 1) count all (omega arith))

each_fits : (bytes : List ℕ) → AllStand bytes (length bytes / 8) → EachFits (program_of bytes)
unfolding program_of
each_fits bytes all = fits_from bytes (length bytes / 8) 0 (length bytes / 8) all (omega arith)

whole_again : (bytes : List ℕ) → IsProgram bytes → AllStand bytes (length bytes / 8) → flat_map entry_bytes (program_of bytes) ≡ bytes
unfolding program_of
whole_again bytes program all = from_slot bytes program all (length bytes / 8) 0 false (omega arith) (none_second bytes)

pub program_again : (bytes : List ℕ) → IsProgram bytes → AllStand bytes (length bytes / 8) → AsmText (canonical (program_of bytes)) bytes
program_again bytes program all =
    subst (AsmText (canonical (program_of bytes))) (whole_again bytes program all) (text_again (program_of bytes) (each_fits bytes all))
