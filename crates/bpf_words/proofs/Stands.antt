-- The bytes of a slot that reads as an instruction are the instruction's.
use Rattle.std.proofs.Common.{◌≡◌, ℕ, ◌+◌, ◌*◌, ◌/◌, ◌%◌, ◌^◌, ◌<◌, ◌≤◌, List, [], ◌∷◌, ◌++◌, ◌-◌, length, take, drop, slice_index, slice_range, nat_lt, if◌then◌else◌, true, false, Option, Some, None, Ok, Err, IfOk, refl, sym, ap, ◌∙◌, arith}
use Rattle.std.proofs.Math.Seq.{take-add}
use Rattle.std.proofs.lemmas.List.{drop-drop}
use borrow.Author.Tests.{ltb-true}
use Rattle.std.proofs.lemmas.List.Edits.{length-between, get_or-between}
use Rattle.byteorder.specs.Endian.{little_bytes}
use Rattle.bpf_words.specs.declared.fields.Fields.{Fields}
use Rattle.bpf_words.specs.declared.instruction.Insn.{Insn}
use Rattle.bpf_words.specs.Slots.{slot_at, fields_of}
use Rattle.bpf_words.specs.Reading.{Read}
use Rattle.bpf_words.specs.Words.{next_slot}
use Rattle.bpf_words.specs.Encoding.{fields_for, slot_of, second_slot, second_bytes, encoded}
use Rattle.bpf_words.specs.RoundTrip.{Follows, StandsAt}
use Rattle.bpf_words.proofs.Numbers.{slot-of-fields}

abbrev pub AreBytes : List ℕ → Type 0
AreBytes bytes = (offset : ℕ) → slice_index bytes offset < 256

slot-small : (bytes : List ℕ) (index : ℕ) → AreBytes bytes → slot_at bytes index < 2 ^ 64
slot-small bytes index are =
    let a = are (8 * index) in
    let b = are (8 * index + 1) in
    let c = are (8 * index + 2) in
    let d = are (8 * index + 3) in
    let e = are (8 * index + 4) in
    let f = are (8 * index + 5) in
    let g = are (8 * index + 6) in
    let h = are (8 * index + 7) in
    omega arith

eight : (xs : List ℕ) → length xs ≡ 8 → xs ≡ slice_index xs 0 ∷ slice_index xs 1 ∷ slice_index xs 2 ∷ slice_index xs 3 ∷ slice_index xs 4 ∷ slice_index xs 5 ∷ slice_index xs 6 ∷ slice_index xs 7 ∷ []
eight (a ∷ b ∷ c ∷ d ∷ e ∷ f ∷ g ∷ h ∷ []) long = refl
eight _ long = absurd (omega arith)

digits : (a b c d e f g h n : ℕ) → a < 256 → b < 256 → c < 256 → d < 256 → e < 256 → f < 256 → g < 256 → h < 256 → n ≡ a + b * 2 ^ 8 + c * 2 ^ 16 + d * 2 ^ 24 + e * 2 ^ 32 + f * 2 ^ 40 + g * 2 ^ 48 + h * 2 ^ 56 → a ∷ b ∷ c ∷ d ∷ e ∷ f ∷ g ∷ h ∷ [] ≡ little_bytes 8 n
digits a b c d e f g h n ha hb hc hd he hf hg hh sum =
    let ea : a ≡ n % 256 = omega arith in
    let eb : b ≡ n / 256 % 256 = omega arith in
    let ec : c ≡ n / 65536 % 256 = omega arith in
    let ed : d ≡ n / 16777216 % 256 = omega arith in
    let ee : e ≡ n / 4294967296 % 256 = omega arith in
    let ef : f ≡ n / 1099511627776 % 256 = omega arith in
    let eg : g ≡ n / 281474976710656 % 256 = omega arith in
    let eh : h ≡ n / 72057594037927936 % 256 = omega arith in
    rw (ea, eb, ec, ed, ee, ef, eg, eh) refl

eight-same : (a b c d e f g h a' b' c' d' e' f' g' h' : ℕ) → a ≡ a' → b ≡ b' → c ≡ c' → d ≡ d' → e ≡ e' → f ≡ f' → g ≡ g' → h ≡ h' → a ∷ b ∷ c ∷ d ∷ e ∷ f ∷ g ∷ h ∷ [] ≡ a' ∷ b' ∷ c' ∷ d' ∷ e' ∷ f' ∷ g' ∷ h' ∷ []
eight-same a b c d e f g h a' b' c' d' e' f' g' h' ea eb ec ed ee ef eg eh = rw (ea, eb, ec, ed, ee, ef, eg, eh) refl

-- the eight bytes of a slot
pub slot-bytes : (bytes : List ℕ) (index : ℕ) → AreBytes bytes → 8 * index + 8 ≤ length bytes → slice_range bytes (8 * index) (8 * index + 8) ≡ little_bytes 8 (slot_at bytes index)
slot-bytes bytes index are within =
    let part : List ℕ = slice_range bytes (8 * index) (8 * index + 8) in
    let long : length (slice_range bytes (8 * index) (8 * index + 8)) ≡ 8 =
    length-between bytes (8 * index) (8 * index + 8) within ∙ omega arith in
    let at : (k : ℕ) → k < 8 → slice_index (slice_range bytes (8 * index) (8 * index + 8)) k ≡ slice_index bytes (8 * index + k) =
    λ k less. get_or-between bytes (8 * index) (8 * index + 8) k 0 (omega arith) in
    let first : 8 * index + 0 ≡ 8 * index = omega arith in
    eight (slice_range bytes (8 * index) (8 * index + 8)) long
    ∙ eight-same _ _ _ _ _ _ _ _ _ _ _ _ _ _ _ _
    (at 0 (omega arith) ∙ ap (λ (k : ℕ). slice_index bytes k) first)
    (at 1 (omega arith))
    (at 2 (omega arith))
    (at 3 (omega arith))
    (at 4 (omega arith))
    (at 5 (omega arith))
    (at 6 (omega arith))
    (at 7 (omega arith))
    ∙ digits (slice_index bytes (8 * index)) (slice_index bytes (8 * index + 1)) (slice_index bytes (8 * index + 2)) (slice_index bytes (8 * index + 3)) (slice_index bytes (8 * index + 4)) (slice_index bytes (8 * index + 5)) (slice_index bytes (8 * index + 6)) (slice_index bytes (8 * index + 7))
    (slot_at bytes index)
    (are (8 * index)) (are (8 * index + 1)) (are (8 * index + 2)) (are (8 * index + 3)) (are (8 * index + 4)) (are (8 * index + 5)) (are (8 * index + 6)) (are (8 * index + 7)) refl

two-parts : (xs : List ℕ) (start next : ℕ) (a b : List ℕ) → next ≡ start + 8 → slice_range xs start (start + 8) ≡ a → slice_range xs next (next + 8) ≡ b → slice_range xs start (start + 16) ≡ a ++ b
two-parts xs start next a b there first second =
    let whole : start + 16 - start ≡ 8 + 8 = omega arith in
    let eight_first : start + 8 - start ≡ 8 = omega arith in
    let eight_second : next + 8 - next ≡ 8 = omega arith in
    let front : take 8 (drop start xs) ≡ a = ap (λ (n : ℕ). take n (drop start xs)) (sym eight_first) ∙ first in
    let back : take 8 (drop next xs) ≡ b = ap (λ (n : ℕ). take n (drop next xs)) (sym eight_second) ∙ second in
    let moved : drop 8 (drop start xs) ≡ drop next xs = drop-drop 8 start xs ∙ ap (λ (n : ℕ). drop n xs) (sym there) in
    ap (λ (n : ℕ). take n (drop start xs)) whole
    ∙ take-add 8 8 (drop start xs)
    ∙ ap (λ (ys : List ℕ). take 8 (drop start xs) ++ take 8 ys) moved
    ∙ ap (λ (ys : List ℕ). ys ++ take 8 (drop next xs)) front
    ∙ ap (λ (ys : List ℕ). a ++ ys) back

-- a slot that comes next is there, and is that number
next-is : (bytes : List ℕ) (index slot : ℕ) → next_slot bytes index ≡ Some slot → (index < length bytes / 8) × (slot ≡ slot_at bytes index)
next-is bytes index slot h =
    elim (nat_lt index (length bytes / 8)) as (λ b. nat_lt index (length bytes / 8) ≡ b → (if b then Some (slot_at bytes index) else None) ≡ Some slot → (index < length bytes / 8) × (slot ≡ slot_at bytes index)) [
      | true ↦ λ less e. (ltb-true index (length bytes / 8) less, cc)
      | false ↦ λ not_less e. absurd (cc)
    ] refl h

pub stands-with : (bytes : List ℕ) (index first : ℕ) (second : Option ℕ) → AreBytes bytes → index < length bytes / 8 → first ≡ slot_at bytes index → ((slot : ℕ) → second ≡ Some slot → next_slot bytes (index + 1) ≡ Some slot) → StandsAt bytes (8 * index) (little_bytes 8 first ++ second_bytes second)
stands-with bytes index first None are within same follows =
    slot-bytes bytes index are (omega arith) ∙ ap (λ (n : ℕ). little_bytes 8 n) (sym same)
stands-with bytes index first (Some slot) are within same follows =
    let next = next-is bytes (index + 1) slot (follows slot refl) in
    let there : index + 1 < length bytes / 8 = next.0 in
    let front = slot-bytes bytes index are (omega arith) ∙ ap (λ (n : ℕ). little_bytes 8 n) (sym same) in
    let back = slot-bytes bytes (index + 1) are (omega arith) ∙ ap (λ (n : ℕ). little_bytes 8 n) (sym next.1) in
    two-parts bytes (8 * index) (8 * (index + 1)) (little_bytes 8 first) (little_bytes 8 slot) (omega arith) front back

pub stands : (bytes : List ℕ) (index : ℕ) (insn : Insn) → AreBytes bytes → index < length bytes / 8 → fields_for insn ≡ fields_of (slot_at bytes index) → Follows insn (next_slot bytes (index + 1)) → StandsAt bytes (8 * index) (encoded insn)
unfolding encoded
stands bytes index insn are within same follows =
    let first : slot_of (fields_for insn) ≡ slot_at bytes index =
    ap (λ (f : Fields). slot_of f) same ∙ slot-of-fields (slot_at bytes index) (slot-small bytes index are) in
    stands-with bytes index (slot_of (fields_for insn)) (second_slot insn) are within first follows

pub stands-read : (bytes : List ℕ) (index : ℕ) (read : Read) (fields : Fields) (next : Option ℕ) → AreBytes bytes → index < length bytes / 8 → fields ≡ fields_of (slot_at bytes index) → next ≡ next_slot bytes (index + 1) → IfOk read (λ insn. fields_for insn ≡ fields) → IfOk read (λ insn. Follows insn next) → IfOk read (λ insn. StandsAt bytes (8 * index) (encoded insn))
stands-read bytes index (Ok insn) fields next are within fields_are next_is back follows =
    stands bytes index insn are within (back ∙ fields_are) (λ slot e. sym next_is ∙ follows slot e)
stands-read bytes index (Err fault) fields next are within fields_are next_is back follows = tt
