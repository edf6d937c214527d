-- Slots as numbers: their fields, and their bytes.
use Rattle.std.proofs.Common.{◌≡◌, ℕ, ◌+◌, ◌*◌, ◌/◌, ◌%◌, ◌^◌, ◌<◌, refl, arith}
use Rattle.std.proofs.lemmas.Int.{of_z-to_z}
use Rattle.bpf_words.specs.Slots.{fields_of}
use Rattle.bpf_words.specs.Encoding.{fields_with, slot_of}

-- the fields of a sum of fields are those fields
pub fields-of-slot : (a b c d e : ℕ) → a < 256 → b < 16 → c < 16 → d < 2 ^ 16 → e < 2 ^ 32 → fields_of (slot_of (fields_with a b c d e)) ≡ fields_with a b c d e
fields-of-slot a b c d e ha hb hc hd he =
    let sum : ℕ = a + b * 2 ^ 8 + c * 2 ^ 12 + d * 2 ^ 16 + e * 2 ^ 32 in
    let ea : (a + b * 2 ^ 8 + c * 2 ^ 12 + d * 2 ^ 16 + e * 2 ^ 32) % 2 ^ 8 ≡ a = omega arith in
    let eb : (a + b * 2 ^ 8 + c * 2 ^ 12 + d * 2 ^ 16 + e * 2 ^ 32) / 2 ^ 8 % 2 ^ 4 ≡ b = omega arith in
    let ec : (a + b * 2 ^ 8 + c * 2 ^ 12 + d * 2 ^ 16 + e * 2 ^ 32) / 2 ^ 12 % 2 ^ 4 ≡ c = omega arith in
    let ed : (a + b * 2 ^ 8 + c * 2 ^ 12 + d * 2 ^ 16 + e * 2 ^ 32) / 2 ^ 16 % 2 ^ 16 ≡ d = omega arith in
    let ee : (a + b * 2 ^ 8 + c * 2 ^ 12 + d * 2 ^ 16 + e * 2 ^ 32) / 2 ^ 32 ≡ e = omega arith in
    rw (ea, eb, ec, ed, ee) refl

-- an unsigned number read as signed and back
pub ruleset casts = (of_z-to_z)

-- a slot is the sum of its fields
pub slot-of-fields : (n : ℕ) → n < 2 ^ 64 → slot_of (fields_of n) ≡ n
slot-of-fields n h = omega arith
