-- What the code lends, as the definitions speak of it.
use Rattle.std.specs.Prelude.{◌≡◌, ℕ, ◌+◌, ◌≤◌, ◌<◌, length, map, List, [], ◌∷◌}
use Rattle.assembler_lines.specs.declared.token.Token.{Token}
use Rattle.assembler_lines.specs.declared.token.Token.TheVariants as token
use Rattle.assembler_lines.specs.declared.token.Term as declared
use Rattle.assembler_lines.specs.declared.token.Term.TheVariants as term
use Rattle.assembler_lines.specs.declared.token.Next.{Next}
use Rattle.assembler_lines.specs.declared.token.Next.TheVariants.{Found, End}
use Rattle.assembler_lines.specs.Tokens.{Lexeme, Mark, Word, Stray, tokens_of}
use Rattle.assembler_lines.specs.Terms.{Term, Symbol, Name, Number}

abbrev pub lexeme : Token → Lexeme
lexeme (token.Mark sign) = Mark sign
lexeme (token.Word word) = Word word.now
lexeme token.Stray = Stray

-- the bytes of a token
abbrev pub token_len : Token → ℕ
token_len (token.Word word) = length word.now
token_len other = 1

abbrev pub Steps : List ℕ → Next → Type 0
Steps line End = tokens_of line ≡ []
Steps line (Found t rest) = tokens_of line ≡ lexeme t ∷ tokens_of rest.now

abbrev pub IsShorter : List ℕ → Next → Type 0
IsShorter line End = Unit {0}
IsShorter line (Found t rest) = (length rest.now < length line) × (token_len t + length rest.now ≤ length line)

abbrev pub term_seen : declared.Term → Term
term_seen (term.Symbol sign) = Symbol sign
term_seen (term.Name word) = Name word.now
term_seen (term.Number numeral) = Number numeral

abbrev pub terms_seen : List declared.Term → List Term
terms_seen terms = map term_seen terms
