-- Names and numbers: what the words of a line are.
use Rattle.std.specs.Prelude.{ℕ, ◌^◌, nat_lt, nat_eq, ◌&&◌, not, ◌==◌, if◌then◌else◌, Bool, true, false, List, [], ◌∷◌}
use Rattle.std.specs.Prelude.{length, drop, Option, Some, None, codes, option_map, option_and_then}
use Rattle.std.specs.List.{list_all, starts_with}
use Rattle.std.specs.Char.{is_digit}
use Rattle.std.specs.Str.Parse.{digits_value}
use Rattle.assembler_lines.specs.declared.token.Sign.{Sign}
use Rattle.assembler_lines.specs.declared.token.Numeral.{Numeral}
use Rattle.assembler_lines.specs.Tokens.{Lexeme, Mark, Word, Stray}

-- a token where all are right: a sign, a name, or a number
pub data Term : Type 0 where
  Symbol : Sign → Term
  Name : List ℕ → Term
  Number : Numeral → Term

infixl 10 ◌>>=◌
abbrev pub ◌>>=◌ : {A B : Type 0} → Option A → (A → Option B) → Option B
o >>= f = option_and_then f o

-- a number of 64 bits; a greater one is out of every range
abbrev pub bounded : ℕ → Option ℕ
bounded n = if nat_lt n (2 ^ 64) then Some n else None

-- one digit or more of a base, of either case, and nothing else
unfoldable pub are_digits : ℕ → List ℕ → Bool
are_digits base word = not (length word == 0) && list_all (λ b. is_digit b base) word

abbrev pub numeral_in : ℕ → Bool → List ℕ → Option Numeral
numeral_in base hexadecimal digits =
    if are_digits base digits
    then Some (record { hexadecimal = hexadecimal; value = bounded (digits_value base digits) }) else None

-- the number that a word spells: `0x` and hexadecimal digits, or decimal digits
unfoldable pub numeral_of : List ℕ → Option Numeral
numeral_of word =
    if starts_with nat_eq word (codes "0x") then numeral_in 16 true (drop 2 word) else numeral_in 10 false word

abbrev pub begins_digit : List ℕ → Bool
begins_digit [] = false
begins_digit (b ∷ word) = is_digit b 10

-- a word that begins with a digit has to be a number
unfoldable pub term_of_word : List ℕ → Option Term
term_of_word word = if begins_digit word then option_map Number (numeral_of word) else Some (Name word)

abbrev pub term_of : Lexeme → Option Term
term_of (Mark sign) = Some (Symbol sign)
term_of (Word word) = term_of_word word
term_of Stray = None

-- a line's tokens, where each is right
unfoldable pub terms_of : List Lexeme → Option (List Term)
terms_of [] = Some []
terms_of (token ∷ tokens) = do
  term ← term_of token
  terms ← terms_of tokens
  Some (term ∷ terms)
