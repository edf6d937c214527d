-- How many bytes a tree takes from a budget.
use Rattle.std.specs.Prelude.{◌+◌, ◌*◌, ◌/◌, ℕ}

-- a counted value with a list of so many handles
abbrev pub list_bytes : ℕ → ℕ
list_bytes handles = 96 + 8 * handles

-- at most that for the nodes of so many pieces: a handle each, and a node for each 16 of them begun
abbrev pub nodes_bytes : ℕ → ℕ
nodes_bytes pieces = 14 * pieces + 90

-- at most that for the nodes of a window of so many new pieces, which have up to 64 other pieces besides
abbrev pub window_bytes : ℕ → ℕ
window_bytes new = 14 * new + 986

-- at most that for the root of so many pieces: a handle for each node
abbrev pub root_bytes : ℕ → ℕ
root_bytes pieces = 96 + 8 * (pieces / 16 + 1)
