-- An opcode byte is the byte of the opcode that it names: by computation over all 256.
use Rattle.std.proofs.Common.{◌≡◌, ℕ, zero, suc, ◌+◌, ◌*◌, ◌<◌, ◌==◌, ◌&&◌, Bool, true, false, slice_index, refl, sym, ap, ◌∙◌, eqb-true, add-zero, arith}
use Rattle.std.specs.List.{list_all, range_with_len}
use Rattle.bpf_words.specs.declared.instruction.Width.TheVariants.{Narrow, Full}
use Rattle.bpf_words.specs.declared.opcode.Opcode.{Opcode}
use Rattle.bpf_words.specs.declared.opcode.Opcode.TheVariants.{Computing, Negating, Converting, Jumping, JumpingLong, Branching, Loading, LoadingSigned, Storing, LoadingWide, Exiting, LeftOut, Undefined}
use Rattle.bpf_words.specs.Opcodes.{opcode_of}
use Rattle.bpf_words.specs.Encoding.{code_of, offset_for, comparison_code, arithmetic_byte, jump_byte, conversion_byte, store_byte, modifier_of, signed_modifier}
use Rattle.bpf_words.specs.RoundTrip.{IsByteOf}
use Rattle.bpf_words.specs.Table.{opcode_map, letter_of, IsMapped}

-- `IsByteOf` as a test
unfoldable is_byte_of : ℕ → Opcode → Bool
is_byte_of byte (Computing width operation by_register) =
    byte == arithmetic_byte width by_register (code_of operation) && offset_for operation == 0
is_byte_of byte (Negating width) = byte == arithmetic_byte width false 0x8
is_byte_of byte (Converting conversion) = byte == conversion_byte conversion
is_byte_of byte Jumping = byte == jump_byte Full false 0x0
is_byte_of byte JumpingLong = byte == jump_byte Narrow false 0x0
is_byte_of byte (Branching width comparison by_register) = byte == jump_byte width by_register (comparison_code comparison)
is_byte_of byte (Loading size) = byte == 32 * 3 + 8 * modifier_of size + 1
is_byte_of byte (LoadingSigned size) = byte == 32 * 4 + 8 * signed_modifier size + 1
is_byte_of byte (Storing size by_register) = byte == store_byte by_register (modifier_of size)
is_byte_of byte LoadingWide = byte == 0x18
is_byte_of byte Exiting = byte == jump_byte Full false 0x9
is_byte_of byte LeftOut = true
is_byte_of byte Undefined = true

all-bytes : list_all (λ byte. is_byte_of byte (opcode_of byte)) (range_with_len 0 256) ≡ true
unfolding is_byte_of
all-bytes = refl

both : (a b : Bool) → (a && b) ≡ true → (a ≡ true) × (b ≡ true)
both true b h = (refl, h)
both false b h = absurd (cc)

all_at : (test : ℕ → Bool) (from count k : ℕ) → list_all test (range_with_len from count) ≡ true → k < count → test (from + k) ≡ true
all_at test from zero k h less = absurd (omega arith)
all_at test from (suc count) zero h less = rw add-zero (both (test from) (list_all test (range_with_len (from + 1) count)) h).0
all_at test from (suc count) (suc k) h less =
    let there = all_at test (from + 1) count k (both (test from) (list_all test (range_with_len (from + 1) count)) h).1 (omega arith) in
    let same_index : from + 1 + k ≡ from + suc k = omega arith in
    ap test (sym same_index) ∙ there

tested : (byte : ℕ) (opcode : Opcode) → is_byte_of byte opcode ≡ true → IsByteOf byte opcode
unfolding is_byte_of
tested byte (Computing width operation by_register) h =
    let parts = both (byte == arithmetic_byte width by_register (code_of operation)) (offset_for operation == 0) h in
    (eqb-true byte (arithmetic_byte width by_register (code_of operation)) parts.0, eqb-true (offset_for operation) 0 parts.1)
tested byte (Negating width) h = eqb-true byte (arithmetic_byte width false 0x8) h
tested byte (Converting conversion) h = eqb-true byte (conversion_byte conversion) h
tested byte Jumping h = eqb-true byte (jump_byte Full false 0x0) h
tested byte JumpingLong h = eqb-true byte (jump_byte Narrow false 0x0) h
tested byte (Branching width comparison by_register) h = eqb-true byte (jump_byte width by_register (comparison_code comparison)) h
tested byte (Loading size) h = eqb-true byte (32 * 3 + 8 * modifier_of size + 1) h
tested byte (LoadingSigned size) h = eqb-true byte (32 * 4 + 8 * signed_modifier size + 1) h
tested byte (Storing size by_register) h = eqb-true byte (store_byte by_register (modifier_of size)) h
tested byte LoadingWide h = eqb-true byte 0x18 h
tested byte Exiting h = eqb-true byte (jump_byte Full false 0x9) h
tested byte LeftOut h = tt
tested byte Undefined h = tt

pub byte-of-opcode : (byte : ℕ) → byte < 256 → IsByteOf byte (opcode_of byte)
byte-of-opcode byte less =
    let here : is_byte_of (0 + byte) (opcode_of (0 + byte)) ≡ true = all_at (λ b. is_byte_of b (opcode_of b)) 0 256 byte all-bytes less in
    let same_byte : 0 + byte ≡ byte = omega arith in
    tested byte (opcode_of byte) (ap (λ b. is_byte_of b (opcode_of b)) (sym same_byte) ∙ here)

pub byte-named : (byte : ℕ) (opcode : Opcode) → byte < 256 → opcode ≡ opcode_of byte → IsByteOf byte opcode
byte-named byte opcode less e = rw e (byte-of-opcode byte less)

all-mapped : list_all (λ byte. letter_of (opcode_of byte) == slice_index opcode_map byte) (range_with_len 0 256) ≡ true
unfolding letter_of opcode_map
all-mapped = refl

pub byte-mapped : (byte : ℕ) (opcode : Opcode) → byte < 256 → opcode ≡ opcode_of byte → IsMapped byte opcode
byte-mapped byte opcode less e =
    let here : (letter_of (opcode_of (0 + byte)) == slice_index opcode_map (0 + byte)) ≡ true =
    all_at (λ b. letter_of (opcode_of b) == slice_index opcode_map b) 0 256 byte all-mapped less in
    let same_byte : 0 + byte ≡ byte = omega arith in
    let there : (letter_of (opcode_of byte) == slice_index opcode_map byte) ≡ true =
    ap (λ b. letter_of (opcode_of b) == slice_index opcode_map b) (sym same_byte) ∙ here in
    ap (λ (o : Opcode). letter_of o) e ∙ eqb-true (letter_of (opcode_of byte)) (slice_index opcode_map byte) there
