-- What is kept of an input of hexadecimal digits.
use Rattle.std.specs.Prelude.{◌≡◌, ℕ, List, take}
use Rattle.std.specs.List.{list_all}
use Rattle.hub_commands.specs.Digits.{AreDigits}
use Rattle.hub_commands.specs.Hexadecimal.{without_blanks}
use Rattle.hub_commands.specs.Hints.{is_printable}
use Rattle.hub_commands.specs.declared.hex_input.HexInput.{HexInput}

-- its first bytes, whether all are printable, and its digits
pub record IsHexInput (input : List ℕ) (kept : HexInput) : Type 0 where
  pub front : kept.front.items ≡ take 3 input
  pub printable : kept.are_printable ≡ list_all is_printable input
  pub digits : AreDigits (without_blanks input) kept.digits
