-- A text in pieces, by its characters.
use Rattle.std.specs.Prelude.{◌≡◌, ◌<◌, ◌≤◌, ◌+◌, ℕ, List, [], ◌∷◌, Some, All, chars, drop, encode_utf8_all, length}
use Rattle.std.specs.Prelude.{slice_get, take}
use Rattle.std.specs.Str.{IsUtf8}
use Rattle.piece_tree.specs.Nodes.{pieces_of}
use Rattle.piece_tree.specs.declared.piece.Measure.{Measure}
use Rattle.piece_tree.specs.declared.piece.Measure.TheVariants.{Parts, Characters}

-- a piece of these characters has so many bytes, and so many characters
abbrev pub text_size : Measure → List ℕ → ℕ
text_size Parts cs = length (encode_utf8_all cs)
text_size Characters cs = length cs

-- they are the characters of a text
abbrev pub AreCharacters : List ℕ → Type 0
AreCharacters cs = (text : List ℕ) × IsUtf8 text × (chars text ≡ cs)

-- the characters of a text, of which there are some, in 256 bytes at most
pub record IsPiece (cs : List ℕ) : Type 0 where
  pub some : 0 < length cs
  pub few : length (encode_utf8_all cs) ≤ 256
  pub spelt : AreCharacters cs

-- it has 64 bytes at least
abbrev pub IsLarge : List ℕ → Type 0
IsLarge cs = 64 ≤ length (encode_utf8_all cs)

-- each piece has so many
abbrev pub AreAllLarge : List (List ℕ) → Type 0
AreAllLarge [] = Unit {0}
AreAllLarge (piece ∷ pieces) = IsLarge piece × AreAllLarge pieces

-- each piece but the last has so many
abbrev pub AreLarge : List (List ℕ) → Type 0
AreLarge [] = Unit {0}
AreLarge (piece ∷ []) = Unit {0}
AreLarge (piece ∷ next ∷ pieces) = IsLarge piece × AreLarge (next ∷ pieces)

-- from a place in the piece at an index on, so many characters
abbrev pub extracted : List (List ℕ) → ℕ → ℕ → ℕ → List ℕ
extracted pieces index before left = take left (drop before (pieces_of (drop index pieces)))

-- the pieces have these characters, and where there are any, the first of them stands in the piece at the index
pub record IsExtract (pieces : List (List ℕ)) (index before left : ℕ) : Type 0 where
  pub filled : All IsPiece pieces
  pub within : before + left ≤ length (pieces_of (drop index pieces))
  pub begins : (piece : List ℕ) → 0 < left → slice_get pieces index ≡ Some piece → before < length piece
