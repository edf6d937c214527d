-- What is kept of hexadecimal digits, of which there may be any number.
use Rattle.std.specs.Prelude.{◌≡◌, ℕ, ◌%◌, ◌==◌, List, length, take, Ok}
use Rattle.std.specs.List.{list_all}
use Rattle.hex.specs.Hex.{decode_of, is_hex_digit}
use Rattle.hub_commands.specs.declared.digits.Digits.{Digits}

-- the first 65,538 digits, and what all of them are
pub record AreDigits (digits : List ℕ) (kept : Digits) : Type 0 where
  pub first : kept.first.items ≡ take 65538 digits
  pub odd : kept.is_odd ≡ (length digits % 2 == 1)
  pub right : kept.are_right ≡ list_all is_hex_digit digits

-- digits stand for bytes, of which these are the first 32,769
abbrev pub StandFor : List ℕ → List ℕ → Type 0
StandFor digits bytes = (all : List ℕ) × (decode_of digits ≡ Ok all) × (bytes ≡ take 32769 all)
