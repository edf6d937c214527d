-- How a line is put together of what a reader shows.
use Rattle.std.specs.Prelude.{◌≡◌, ℕ, ◌-◌, ◌<◌, ◌≤◌, List, [], ◌∷◌, ◌++◌, length, take, Option, Some, None}
use Rattle.std.specs.Io.KnownBytes.{Consumes}
use Rattle.change_ops.specs.Refusals.{IsUnended}
use Rattle.session_lines.specs.Lines.{IsLine, IsRemainder, IsTooLong, IsOver}
use Rattle.session_lines.specs.declared.reader.Arrival.{Arrival}
use Rattle.session_lines.specs.declared.reader.Arrival.TheVariants.{Whole, Unended, TooLong, End}

-- `n` bytes of an input were appended to a line, none of them a LF but perhaps the last; none at the input's end
-- alone.
pub record Appended (old : Option (List ℕ)) (had : List ℕ) (room n : ℕ) (new : Option (List ℕ)) (line : List ℕ) : Type 0
  where
    pub part : List ℕ
    pub whole : line ≡ had ++ part
    pub many : length part ≡ n
    pub few : n ≤ room
    pub one : IsUnended (take (n - 1) part)
    pub front : Consumes old new part
    pub end : n ≡ 0 → IsOver old new

-- what was read of a line, the last part of it of `part` bytes
pub record IsBegun (part : ℕ) (line : List ℕ) : Type 0 where
  pub few : length line ≤ 70001
  pub one : IsUnended (take (length line - 1) line)
  pub some : 0 < part → 0 < length line
  pub last : part ≡ 0 → IsRemainder line

-- what comes of the line, if it is read, and what it is without its LF
abbrev pub Stands : ℕ → List ℕ → Option Arrival → List ℕ → Type 0
Stands part old None new = (new ≡ old) × IsRemainder old
Stands part old (Some Whole) new = (old ≡ new ++ 10 ∷ []) × IsLine new
Stands part old (Some Unended) new = (new ≡ old) × IsRemainder old × (1 ≤ length old) × (part ≡ 0)
Stands part old (Some TooLong) new = IsTooLong old
Stands part old (Some End) new = (old ≡ []) × (part ≡ 0)
