-- Known bits as two words, and what each operation makes of them.
use Rattle.std.specs.Prelude.{ℕ, ◌-◌, ◌*◌, ◌/◌, ◌%◌, ◌^◌, nat_eq, if◌then◌else◌, bit_and, bit_or, bit_xor, Bool}
use Rattle.std.specs.Prelude.{Option, Some, None}
use lib.Count.{count_leading_zeros}
use Rattle.known_bits.specs.declared.Bits.{Bits}

-- the bits that are 1 for sure, and those that may be 0 or 1; each other bit is 0
pub record KnownBits : Type 0 where
  pub ones : ℕ
  pub unknown : ℕ

abbrev pub known_of : Bits → KnownBits
known_of b = record { ones = b.value; unknown = b.unknown }

-- the bits of a number without those of another
abbrev pub without : ℕ → ℕ → ℕ
without a b = bit_and a (2 ^ 64 - 1 - b)

-- the bits that may be 1
abbrev pub most_bits : KnownBits → ℕ
most_bits a = bit_or a.ones a.unknown

-- each bit of one number is known
abbrev pub all_known : ℕ → KnownBits
all_known n = record { ones = n; unknown = 0 }

-- no bit is known
abbrev pub none_known : KnownBits
none_known = record { ones = 0; unknown = 2 ^ 64 - 1 }

-- known are the high bits that two numbers have in common
unfoldable pub common_bits : ℕ → ℕ → KnownBits
common_bits low high =
    let unknown = (2 ^ 64 - 1) / 2 ^ count_leading_zeros 64 (bit_xor low high) in
    record { ones = without low unknown; unknown = unknown }

-- a bit of the `and` is 1 where both are, and 0 where one is
unfoldable pub bits_of_both : KnownBits → KnownBits → KnownBits
bits_of_both a b =
    let ones = bit_and a.ones b.ones in
    record { ones = ones; unknown = without (bit_and (most_bits a) (most_bits b)) ones }

-- a bit of the `or` is 1 where one is, and 0 where both are
unfoldable pub bits_of_either : KnownBits → KnownBits → KnownBits
bits_of_either a b =
    let ones = bit_or a.ones b.ones in
    record { ones = ones; unknown = without (bit_or a.unknown b.unknown) ones }

-- a bit of the `xor` is known where both are
unfoldable pub bits_of_one : KnownBits → KnownBits → KnownBits
bits_of_one a b =
    let unknown = bit_or a.unknown b.unknown in
    record { ones = without (bit_xor a.ones b.ones) unknown; unknown = unknown }

-- both words shifted; the bits that come in are 0
unfoldable pub bits_shifted_left : ℕ → KnownBits → KnownBits
bits_shifted_left n a = record { ones = a.ones * 2 ^ n % 2 ^ 64; unknown = a.unknown * 2 ^ n % 2 ^ 64 }

unfoldable pub bits_shifted_right : ℕ → KnownBits → KnownBits
bits_shifted_right n a = record { ones = a.ones / 2 ^ n; unknown = a.unknown / 2 ^ n }

-- the low 32 bits; the others are 0
unfoldable pub low_bits : KnownBits → KnownBits
low_bits a = record { ones = bit_and a.ones (2 ^ 32 - 1); unknown = bit_and a.unknown (2 ^ 32 - 1) }

-- of a number that either says something of, a bit is known where both know it as the same
unfoldable pub agreed_bits : KnownBits → KnownBits → KnownBits
agreed_bits a b =
    let unknown = bit_or (bit_or a.unknown b.unknown) (bit_xor a.ones b.ones) in
    record { ones = without a.ones unknown; unknown = unknown }

-- of a number that both say something of, a bit is known where either knows it; there is none where they differ in a
-- bit that both know
unfoldable pub merged_bits : KnownBits → KnownBits → Option KnownBits
merged_bits a b =
    if nat_eq (without (bit_xor a.ones b.ones) (bit_or a.unknown b.unknown)) 0
    then Some (record { ones = bit_or a.ones b.ones; unknown = bit_and a.unknown b.unknown })
    else None

-- the sum of numbers that have no bit in common is their `or`
abbrev pub are_apart : KnownBits → KnownBits → Bool
are_apart a b = nat_eq (bit_and (most_bits a) (most_bits b)) 0

-- the difference is the `xor` where each bit that the second may have is one of the first for sure
abbrev pub is_covered : KnownBits → KnownBits → Bool
is_covered a b = nat_eq (bit_and (most_bits b) a.ones) (most_bits b)
