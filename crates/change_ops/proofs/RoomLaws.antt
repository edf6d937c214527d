-- What fits into a room, and what is left of it.
use Rattle.std.proofs.Common.{◌≡◌, ℕ, ◌+◌, ◌-◌, ◌<◌, ◌≤◌, true, leb, List, [], ◌∷◌, length, get_or, drop, refl, ap, ◌∙◌, arith, inl, inr, length-append, add-one, drop-cons}
use Rattle.std.specs.Prelude.{◌&&◌, min}
use Rattle.std.proofs.lemmas.Bool.{and_parts, and_from, leb-true, le-leb, lt-leb}
use Rattle.std.proofs.lemmas.Bool.Decides.{leb_tells}
use Rattle.std.proofs.lemmas.List.{drop_all}
use Rattle.change_ops.specs.Lines.{ops_of, ops_of_lines, count_of, count_of_lines}
use Rattle.change_ops.specs.Rooms.{line_fits, room_behind, room_left}
use Rattle.change_ops.specs.declared.line.Line.{Line}
use Rattle.change_ops.specs.declared.room.Room.{Room}

-- how many operations a line and those behind it are, and mean
pub more_count : (line : Line) (lines : List Line) → count_of_lines (line ∷ lines) ≡ count_of line + count_of_lines lines
unfolding count_of_lines
more_count line lines = refl

pub no_count : count_of_lines [] ≡ 0
unfolding count_of_lines
no_count = refl

pub more_ops : (line : Line) (lines : List Line) → length (ops_of_lines (line ∷ lines)) ≡ length (ops_of line) + length (ops_of_lines lines)
unfolding ops_of_lines
more_ops line lines = length-append (ops_of line) (ops_of_lines lines)

pub no_ops : length (ops_of_lines []) ≡ 0
unfolding ops_of_lines
no_ops = refl

-- the two parts of a line's fit
pub record Fits (room : Room) (line : Line) : Type 0 where
  pub operations : count_of line ≤ room.operations
  pub meant : length (ops_of line) ≤ room.meant

pub fits_parts : (room : Room) (line : Line) → line_fits room line ≡ true → Fits room line
fits_parts room line h =
    let a = and_parts (leb (count_of line) room.operations) (leb (length (ops_of line)) room.meant) h in
    record { operations = leb-true _ _ a.0; meant = leb-true _ _ a.1 }

pub fits_from : (room : Room) (line : Line) → count_of line ≤ room.operations → length (ops_of line) ≤ room.meant → line_fits room line ≡ true
fits_from room line a b = and_from (leb (count_of line) room.operations) (leb (length (ops_of line)) room.meant) (le-leb _ _ a) (le-leb _ _ b)

abbrev made : ℕ → ℕ → Room
made operations meant = record { operations = operations; meant = meant }

pub left_none : (room : Room) → room_left room [] ≡ room
left_none room =
    let a = no_count in
    let b = no_ops in
    let operations : room.operations - count_of_lines [] ≡ room.operations = omega arith in
    let meant : room.meant - length (ops_of_lines []) ≡ room.meant = omega arith in
    (λ i. made (operations i) (meant i))

pub left_more : (room : Room) (line : Line) (lines : List Line) → room_left room (line ∷ lines) ≡ room_left (room_behind room line) lines
left_more room line lines =
    let a = more_count line lines in
    let b = more_ops line lines in
    let operations : room.operations - count_of_lines (line ∷ lines) ≡ (room.operations - count_of line) - count_of_lines lines = omega arith in
    let meant : room.meant - length (ops_of_lines (line ∷ lines)) ≡ (room.meant - length (ops_of line)) - length (ops_of_lines lines) = omega arith in
    (λ i. made (operations i) (meant i))

-- what fits the lesser of two numbers fits both
pub least_fits : (n a b : ℕ) → leb n (min a b) ≡ (leb n a && leb n b)
least_fits n a b = elim (leb_tells n a) [
  | inl first ↦ elim (leb_tells n b) [
    | inl second ↦ let least : n ≤ min a b = omega (arith, first.1, second.1) in rw (first.0, second.0, le-leb n (min a b) least) refl
    | inr second ↦ let least : min a b < n = omega (arith, second.1) in rw (first.0, second.0, lt-leb n (min a b) least) refl
  ]
  | inr first ↦ let least : min a b < n = omega (arith, first.1) in rw (first.0, lt-leb n (min a b) least) refl
]

-- how many operations lines mean, from an index on
pub ops_behind : (lines : List Line) (line : Line) (i : ℕ) → i < length lines → line ≡ get_or lines i line → length (ops_of_lines (drop i lines)) ≡ length (ops_of line) + length (ops_of_lines (drop (i + 1) lines))
ops_behind lines line i lt is =
    let left : drop i lines ≡ line ∷ drop (i + 1) lines = rw (add-one, drop-cons lines i line lt, ← is) refl in
    ap (λ (ls : List Line). length (ops_of_lines ls)) left ∙ more_ops line (drop (i + 1) lines)

pub ops_all : (lines : List Line) (i : ℕ) → length lines ≤ i → length (ops_of_lines (drop i lines)) ≡ 0
ops_all lines i le = ap (λ (ls : List Line). length (ops_of_lines ls)) (drop_all i lines le) ∙ no_ops
