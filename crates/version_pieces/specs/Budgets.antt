-- How many bytes a version takes from a budget.
use Rattle.std.specs.Prelude.{◌+◌, ℕ, List, [], ◌∷◌, length}
use Rattle.piece_tree.specs.Budgets.{root_bytes}
use Rattle.text_pieces.specs.Budgets.{text_bytes, text_root_bytes}
use Rattle.format_runs.specs.Budgets.{rows_bytes}
use Rattle.version_glyphs.specs.declared.replacement.Replacement.{Replacement}

-- how many bytes of text the windows bring
abbrev pub bytes_in : List Replacement → ℕ
bytes_in [] = 0
bytes_in (r ∷ rs) = length r.window.text + bytes_in rs

-- at most how many rows there are more with the windows in place
abbrev pub rows_in : List Replacement → ℕ
rows_in [] = 0
rows_in (r ∷ rs) = length r.window.rows + 96 + rows_in rs

-- at most that for the pieces of a window's text and of its rows
abbrev pub window_bytes : Replacement → ℕ
window_bytes r = text_bytes (length r.window.text) + rows_bytes (length r.window.rows)

-- at most that for the two roots of so many bytes of text and so many rows, to which the windows bring more
abbrev pub roots_bytes : ℕ → ℕ → List Replacement → ℕ
roots_bytes bytes rows windows = text_root_bytes (bytes + bytes_in windows) + root_bytes (rows + rows_in windows)

-- at most that for windows, for each of which roots of so many bytes are made anew
abbrev pub windows_bytes : ℕ → List Replacement → ℕ
windows_bytes roots [] = 0
windows_bytes roots (r ∷ rs) = window_bytes r + roots + windows_bytes roots rs

-- at most that for a version of so many bytes of text and so many rows that shares nothing
abbrev pub whole_bytes : ℕ → ℕ → ℕ
whole_bytes bytes rows = text_bytes bytes + rows_bytes rows + (text_root_bytes bytes + root_bytes rows) + 192
