-- What is said beside the refusal of an input whose form is wrong.
use Rattle.std.specs.Prelude.{ℕ, ◌%◌, ◌==◌, nat_le, nat_eq, ◌||◌, ◌&&◌, if◌then◌else◌, Bool}
use Rattle.std.specs.Prelude.{List, [], ◌∷◌, length, string_bytes, Option, Some, None}
use Rattle.std.specs.List.{list_all, list_any, starts_with}
use Rattle.hex.specs.Hex.{is_hex_digit}
use Rattle.hub_requests.specs.declared.Command.{Command}
use Rattle.hub_requests.specs.declared.Command.TheVariants.{Asm, Check, Dis, Join, Run, Spans, Straighten, Test}
use Rattle.hub_commands.specs.declared.hint.Hint.{Hint}
use Rattle.hub_commands.specs.declared.hint.Hint.TheVariants.{ByteOrderMark, Binary, OtherSigns, HalfByte, Nul}
use Rattle.hub_commands.specs.Hexadecimal.{is_blank, without_blanks}

-- it begins with the UTF-8 form of U+FEFF
abbrev pub begins_with_mark : List ℕ → Bool
begins_with_mark input = starts_with nat_eq input (0xef ∷ 0xbb ∷ 0xbf ∷ [])

-- a blank, or a printable byte of ASCII
abbrev pub is_printable : ℕ → Bool
is_printable byte = is_blank byte || (nat_le 0x20 byte && nat_le byte 0x7e)

-- to text
unfoldable pub text_hint : List ℕ → Option Hint
text_hint input = if begins_with_mark input then Some ByteOrderMark else None

-- to assembler text
unfoldable pub source_hint : List ℕ → Option Hint
source_hint input =
    if begins_with_mark input then Some ByteOrderMark
    else (if list_any (λ byte. byte == 0) input then Some Nul else None)

-- to digits, blanks left out
abbrev pub pairs_hint : List ℕ → Option Hint
pairs_hint digits =
    if list_all is_hex_digit digits then (if length digits % 2 == 1 then Some HalfByte else None) else Some OtherSigns

-- to hexadecimal digits
unfoldable pub digits_hint : List ℕ → Option Hint
digits_hint input = if begins_with_mark input then Some ByteOrderMark else
    (if list_all is_printable input then pairs_hint (without_blanks input) else Some Binary)

-- to the input of a command
abbrev pub hint_to : Command → List ℕ → Option Hint
hint_to Asm = source_hint
hint_to (Check detail rules) = digits_hint
hint_to Dis = digits_hint
hint_to (Join size) = text_hint
hint_to (Run shown digits options) = λ input. pairs_hint (string_bytes digits)
hint_to (Spans size) = text_hint
hint_to Straighten = digits_hint
hint_to (Test rules form digits) = λ input. pairs_hint (string_bytes digits)
