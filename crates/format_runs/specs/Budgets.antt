-- How many bytes runs take from a budget.
use Rattle.std.specs.Prelude.{◌+◌, ◌*◌, ℕ}

-- a format that runs share
abbrev pub format_bytes : ℕ
format_bytes = 128

-- a piece of so many runs
abbrev pub piece_bytes : ℕ → ℕ
piece_bytes runs = 96 + 16 * runs

-- at most that for so many runs cut into pieces: a piece for each 16 of them begun
abbrev pub cut_bytes : ℕ → ℕ
cut_bytes runs = 22 * runs + 96

-- at most that for so many runs, cut into pieces and put into nodes
abbrev pub put_bytes : ℕ → ℕ
put_bytes runs = 23 * runs + 1096

-- at most that for a window of so many rows, which has up to 96 other runs besides
abbrev pub rows_bytes : ℕ → ℕ
rows_bytes rows = 151 * rows + 3352
