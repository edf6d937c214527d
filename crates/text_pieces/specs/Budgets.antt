-- How many bytes a text takes from a budget.
use Rattle.std.specs.Prelude.{◌+◌, ◌*◌, ◌/◌, ℕ}
use Rattle.piece_tree.specs.Budgets.{root_bytes}

-- a piece of so many bytes: the counted value with its size, and the text
abbrev pub piece_bytes : ℕ → ℕ
piece_bytes bytes = 96 + bytes

-- at most that for the pieces of a text of so many bytes, of which all but the last have 96 bytes at least
abbrev pub pieces_bytes : ℕ → ℕ
pieces_bytes bytes = 2 * bytes + 96

-- at most that for such pieces and the nodes that have them
abbrev pub touched_bytes : ℕ → ℕ
touched_bytes bytes = 2 * bytes + 1096

-- at most that for a window of so many new bytes, with up to three pieces of 256 bytes besides
abbrev pub text_bytes : ℕ → ℕ
text_bytes new = 2 * new + 2632

-- at most that for the root of a text of so many bytes, in pieces of which all but the last have 64 bytes at least
abbrev pub text_root_bytes : ℕ → ℕ
text_root_bytes bytes = root_bytes (bytes / 64 + 1)
