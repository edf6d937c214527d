-- The value of a byte as a hexadecimal digit.
use Rattle.std.specs.Prelude.{ℕ, unwrap_or}
use Rattle.hex.specs.Hex.{hex_digit_value}

-- of one that is no digit, more than any byte has
abbrev pub digit_value : ℕ → ℕ
digit_value byte = unwrap_or (hex_digit_value byte) 256
