-- Assembler text is a form of this project, for the instructions of RFC 9669, sections 3 to 5. Here: the tokens of a
-- line, from its end backwards: a word byte joins the word behind it.
use Rattle.std.specs.Prelude.{ℕ, nat_lt, ◌==◌, ◌&&◌, ◌||◌, not, if◌then◌else◌, Bool, false, List, [], ◌∷◌, Option, Some}
use Rattle.std.specs.Prelude.{None}
use Rattle.std.specs.List.{find}
use Rattle.assembler_lines.specs.declared.token.Sign.{Sign}
use Rattle.assembler_lines.specs.declared.token.Sign.TheVariants.{Comma, Open, Close, Plus, Minus, Colon}

-- a token: a sign, a word by its bytes, or a character that is of no token
pub data Lexeme : Type 0 where
  Mark : Sign → Lexeme
  Word : List ℕ → Lexeme
  Stray : Lexeme

abbrev pub is_between : ℕ → ℕ → ℕ → Bool
is_between low high b = not (nat_lt b low) && not (nat_lt high b)

-- a digit, a letter or `_`
unfoldable pub is_word_byte : ℕ → Bool
is_word_byte b = is_between 48 57 b || is_between 65 90 b || is_between 97 122 b || b == 95

-- a space, a tab or CR
unfoldable pub is_blank : ℕ → Bool
is_blank b = b == 32 || b == 9 || b == 13

-- the byte of each sign
abbrev pub byte_of : Sign → ℕ
byte_of Comma = 44
byte_of Open = 91
byte_of Close = 93
byte_of Plus = 43
byte_of Minus = 45
byte_of Colon = 58

abbrev pub signs : List Sign
signs = Comma ∷ Open ∷ Close ∷ Plus ∷ Minus ∷ Colon ∷ []

-- the sign that a byte is: the table, read the other way
unfoldable pub sign_of : ℕ → Option Sign
sign_of b = find (λ sign. b == byte_of sign) signs

-- a byte before a token that begins right behind it
abbrev pub glued : ℕ → List Lexeme → List Lexeme
glued b (Word w ∷ rest) = Word (b ∷ w) ∷ rest
glued b tokens = Word (b ∷ []) ∷ tokens

abbrev pub begins_word : List ℕ → Bool
begins_word [] = false
begins_word (b ∷ bs) = is_word_byte b

-- a byte that is neither of a word nor blank
abbrev pub sign_or_stray : Option Sign → Lexeme
sign_or_stray (Some sign) = Mark sign
sign_or_stray None = Stray

-- a byte, the bytes behind it, and their tokens
abbrev pub before_rest : ℕ → List ℕ → List Lexeme → List Lexeme
before_rest b bs tokens =
    if is_word_byte b then (if begins_word bs then glued b tokens else Word (b ∷ []) ∷ tokens) else
    if is_blank b then tokens else sign_or_stray (sign_of b) ∷ tokens

-- the tokens of a line; a comment, which `;` begins, ends it
unfoldable pub tokens_of : List ℕ → List Lexeme
tokens_of [] = []
tokens_of (b ∷ bs) = if b == 59 then [] else before_rest b bs (tokens_of bs)
