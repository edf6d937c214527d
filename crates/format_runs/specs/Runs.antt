-- Runs of characters that have one format.
use Rattle.std.specs.Prelude.{◌≡◌, ◌≢◌, ◌<◌, ◌≤◌, ◌+◌, ◌-◌, ◌⊎◌, ℕ, List, [], ◌∷◌, Some, All, flat_map, get_or, length}
use Rattle.std.specs.Prelude.{map, replicate, slice_get, sum_by, take}
use Rattle.mark_anchors.specs.Formatting.{Format}
use Rattle.span_flatten.specs.declared.version.Row.{Row}
use Rattle.piece_tree.specs.Nodes.{pieces_of}
use Rattle.piece_tree.specs.declared.piece.Measure.{Measure}
use Rattle.piece_tree.specs.declared.piece.Measure.TheVariants.{Parts, Characters}

-- so many characters of a format
pub record Run : Type 0 where
  pub format : Format
  pub characters : ℕ

-- how many characters the runs have
abbrev pub character_count : List Run → ℕ
character_count runs = sum_by (λ run. run.characters) runs

-- so many characters of the run's format
abbrev pub of_size : Run → ℕ → Run
of_size run count = record { format = run.format; characters = count }

-- runs are so many, and have so many characters
abbrev pub run_size : Measure → List Run → ℕ
run_size Parts runs = length runs
run_size Characters runs = character_count runs

-- the format of each character, in order
abbrev pub formats_of : List Run → List Format
formats_of runs = flat_map (λ run. replicate run.characters run.format) runs

-- a run for each row
abbrev pub runs_in : List Row → List Run
runs_in rows = map (λ row. record { format = row.format; characters = row.characters }) rows

-- the format of each of the rows' characters, in order
abbrev pub formats_in : List Row → List Format
formats_in rows = flat_map (λ row. replicate row.characters row.format) rows

-- the first of the runs has another format
abbrev pub IsApart : Format → List Run → Type 0
IsApart format runs = (next : Run) → slice_get runs 0 ≡ Some next → format ≢ next.format

-- runs of which each has a character and another format than the next
abbrev pub AreMaximal : List Run → Type 0
AreMaximal [] = Unit {0}
AreMaximal (run ∷ runs) = (0 < run.characters) × IsApart run.format runs × AreMaximal runs

-- the last of the first formats is another one than the first of the second ones, where there are both
abbrev pub AreApart : List Format → List Format → Type 0
AreApart before after =
    (i : ℕ) (x y : Format) → i + 1 ≡ length before → slice_get before i ≡ Some x → slice_get after 0 ≡ Some y → x ≢ y

-- the format is the last of them
abbrev pub IsLast : List Format → Format → Type 0
IsLast formats format = slice_get formats (length formats - 1) ≡ Some format

-- the last of the first formats is the first of the second ones
pub record AreAlike (before after : List Format) : Type 0 where
  pub format : Format
  pub last : IsLast before format
  pub first : slice_get after 0 ≡ Some format

-- the place lies inside a run
pub record IsInside (runs : List Run) (place : ℕ) : Type 0 where
  pub index : ℕ
  pub run : Run
  pub is : slice_get runs index ≡ Some run
  pub begun : character_count (take index runs) < place
  pub unended : place < character_count (take index runs) + run.characters

-- a run begins at the place, or the last one ends there
pub record IsBetween (runs : List Run) (place : ℕ) : Type 0 where
  pub index : ℕ
  pub starts : place ≡ character_count (take index runs)

-- how many characters the rows have
abbrev pub row_count : List Row → ℕ
row_count rows = sum_by (λ row. row.characters) rows

-- what a list of runs in pieces keeps: each piece has 1 to 48 runs, and all runs are maximal
pub record AreRuns (pieces : List (List Run)) : Type 0 where
  pub filled : All (λ piece. 0 < length piece) pieces
  pub small : All (λ piece. length piece ≤ 48) pieces
  pub maximal : AreMaximal (pieces_of pieces)

-- the run of an index, before which so many characters stand
pub record IsPlaced (runs : List Run) (index : ℕ) (run : Run) (start : ℕ) : Type 0 where
  pub is : slice_get runs index ≡ Some run
  pub starts : start ≡ character_count (take index runs)

-- the runs before the index end at the place or before it, and the run of the index, if there is one, ends behind it
pub record IsOver (runs : List Run) (place index : ℕ) : Type 0 where
  pub within : index ≤ length runs
  pub begun : character_count (take index runs) ≤ place
  pub unended : index < length runs → place < character_count (take (index + 1) runs)

-- the run of the index has so many characters from a place on
pub record HasCharacters (runs : List Run) (index place count : ℕ) : Type 0 where
  pub within : index < length runs
  pub begun : character_count (take index runs) ≤ place
  pub unended : place + count ≤ character_count (take (index + 1) runs)

-- one run of a piece, before which so many characters stand, has those from `from` up to `to`, and others stand around
-- these
pub record HasWindow (pieces : List (List Run)) (piece start index from to : ℕ) : Type 0 where
  pub inside : piece < length pieces
  pub counted : start ≡ character_count (pieces_of (take piece pieces))
  pub up_to : start ≤ from
  pub some : from < to
  pub has : HasCharacters (get_or pieces piece []) index (from - start) (to - from)
  pub others : (0 < from) ⊎ (to < character_count (pieces_of pieces))
