-- How a canonical line is laid out: words, signs, and single spaces.
use Rattle.std.specs.Prelude.{◌≡◌, ℕ, true, List, [], ◌∷◌, ◌++◌}
use Rattle.assembler_lines.specs.declared.token.Sign.{Sign}
use Rattle.assembler_lines.specs.Tokens.{Lexeme, Mark, Word, byte_of, is_word_byte}

-- a word of word bytes alone
abbrev pub AreWordBytes : List ℕ → Type 0
AreWordBytes [] = Unit {0}
AreWordBytes (b ∷ w) = (is_word_byte b ≡ true) × AreWordBytes w

pub data Piece : Type 0 where
  Space : Piece
  Sig : Sign → Piece
  Text : List ℕ → Piece

abbrev pub spell : List Piece → List ℕ
spell [] = []
spell (Space ∷ ps) = 32 ∷ spell ps
spell (Sig s ∷ ps) = byte_of s ∷ spell ps
spell (Text w ∷ ps) = w ++ spell ps

abbrev pub lexemes : List Piece → List Lexeme
lexemes [] = []
lexemes (Space ∷ ps) = lexemes ps
lexemes (Sig s ∷ ps) = Mark s ∷ lexemes ps
lexemes (Text w ∷ ps) = Word w ∷ lexemes ps

abbrev pub BeginsApart : List Piece → Type 0
BeginsApart (Text w ∷ ps) = ⊥
BeginsApart ps = Unit {0}

-- words of word bytes, no two of them side by side
abbrev pub WellLaid : List Piece → Type 0
WellLaid [] = Unit {0}
WellLaid (Space ∷ ps) = WellLaid ps
WellLaid (Sig s ∷ ps) = WellLaid ps
WellLaid (Text [] ∷ ps) = ⊥
WellLaid (Text (b ∷ w) ∷ ps) = AreWordBytes (b ∷ w) × BeginsApart ps × WellLaid ps
