-- The lines of a session's input.
use Rattle.std.specs.Prelude.{◌≡◌, ℕ, ◌<◌, ◌≤◌, List, [], ◌∷◌, ◌++◌, length, take, flat_map, Option, OnSome}
use Rattle.std.specs.Io.KnownBytes.{Consumes, IsAtEnd}
use Rattle.change_ops.specs.Refusals.{IsUnended}
use Rattle.session_lines.specs.declared.reader.Arrival.{Arrival}
use Rattle.session_lines.specs.declared.reader.Arrival.TheVariants.{Whole, Unended, TooLong, End}

-- an input: the line that was read last, and the bytes that are left, where they are known
pub record LineReader : Type 0 where
  pub line : List ℕ
  pub left : Option (List ℕ)

-- a line without its LF, which with it has at most 70,000 bytes
pub record IsLine (line : List ℕ) : Type 0 where
  pub one : IsUnended line
  pub short : length line < 70000

-- what an input ends with, at most 70,000 bytes without a LF
pub record IsRemainder (rest : List ℕ) : Type 0 where
  pub one : IsUnended rest
  pub short : length rest ≤ 70000

-- the first bytes of a line that has more than 70,000
pub record IsTooLong (front : List ℕ) : Type 0 where
  pub one : IsUnended (take 70000 front)
  pub long : 70000 < length front

-- an input that had these bytes left has none any more, where they are known
abbrev pub IsOver : Option (List ℕ) → Option (List ℕ) → Type 0
IsOver old new = OnSome old (IsAtEnd new)

-- what these bytes of an input are, and the line among them
abbrev pub Takes : Option (List ℕ) → Arrival → LineReader → List ℕ → Type 0
Takes old Whole new taken = IsLine new.line × (taken ≡ new.line ++ 10 ∷ [])
Takes old Unended new taken = IsRemainder new.line × (1 ≤ length new.line) × (taken ≡ new.line) × IsOver old new.left
Takes old TooLong new taken = IsTooLong taken
Takes old End new taken = (taken ≡ []) × IsOver old new.left

-- this came next of an input that had some bytes left
pub record Arrives (old : Option (List ℕ)) (arrival : Arrival) (new : LineReader) : Type 0 where
  pub taken : List ℕ
  pub front : Consumes old new.left taken
  pub shape : Takes old arrival new taken

-- lines one behind the other, each with its LF
abbrev pub joined : List (List ℕ) → List ℕ
joined lines = flat_map (λ line. line ++ 10 ∷ []) lines
