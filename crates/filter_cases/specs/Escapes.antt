-- A text between quotation marks, as in C.
use Rattle.std.specs.Prelude.{◌≡◌, ◌≢◌, ℕ, ◌+◌, ◌*◌, ◌==◌, if◌then◌else◌, List, [], ◌∷◌, Option, Some, None}
use Rattle.hex.specs.Hex.{hex_digit_value}
use Rattle.change_ops.specs.Reading.{◌>>=◌}

-- the byte that a letter stands for behind a backslash: n, t, a quotation mark and a backslash
abbrev pub letter_byte : ℕ → Option ℕ
letter_byte letter =
    if letter == 110 then Some 10 else if letter == 116 then Some 9 else if letter == 34 then Some 34
    else if letter == 92 then Some 92 else None

-- the byte of two hexadecimal digits, and what stands after them
abbrev pub digits_at : List ℕ → Option (ℕ × List ℕ)
digits_at (high ∷ low ∷ rest) = do
  h ← hex_digit_value high
  l ← hex_digit_value low
  Some (16 * h + l, rest)
digits_at (high ∷ []) = None
digits_at [] = None

-- the byte of an escape, behind its backslash, and what stands after it: an x and two digits, or a letter
unfoldable pub escape_at : List ℕ → Option (ℕ × List ℕ)
escape_at [] = None
escape_at (letter ∷ rest) = if letter == 120 then digits_at rest else (do
  byte ← letter_byte letter
  Some (byte, rest))

-- `input` is a text with escapes, a quotation mark, and the rest
pub data Quoted : List ℕ → List ℕ → List ℕ → Type 0 where
  end : (text rest input : List ℕ) → input ≡ 34 ∷ rest → text ≡ [] → Quoted text rest input
  plain : (byte : ℕ) (text rest input more behind : List ℕ) → input ≡ byte ∷ behind → byte ≢ 34 → byte ≢ 92
      → text ≡ byte ∷ more → Quoted more rest behind → Quoted text rest input
  escape : (byte : ℕ) (text rest input more inner behind : List ℕ) → input ≡ 92 ∷ inner
      → escape_at inner ≡ Some (byte, behind) → text ≡ byte ∷ more → Quoted more rest behind → Quoted text rest input
