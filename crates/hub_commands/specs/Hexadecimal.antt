-- Hexadecimal digits as the commands read and print them.
use Rattle.std.specs.Prelude.{ℕ, ◌/◌, ◌==◌, ◌||◌, Bool, not, List, length, filter, flat_map}
use Rattle.std.specs.Simd.{first_chunks}
use Rattle.hex.specs.Hex.{encode_lower}
use Rattle.hub_commands.specs.Answers.{line}

-- a space, a tab, a carriage return or a line feed
abbrev pub is_blank : ℕ → Bool
is_blank byte = byte == 32 || byte == 9 || byte == 13 || byte == 10

abbrev pub without_blanks : List ℕ → List ℕ
without_blanks text = filter (λ byte. not (is_blank byte)) text

-- the 8 bytes of a slot, as 16 digits
abbrev pub slot_line : List ℕ → List ℕ
slot_line bytes = line (encode_lower bytes)

-- a line for each slot
abbrev pub slot_lines : List ℕ → List ℕ
slot_lines bytes = flat_map slot_line (first_chunks 8 (length bytes / 8) bytes)
