-- The lines of a change in a session, and the text that they are read as.
use Rattle.std.specs.Prelude.{ℕ, ◌==◌, ◌||◌, Bool, if◌then◌else◌, List, [], Option, Some, None, codes, map}
use Rattle.std.specs.Prelude.{option_and_then}
use Rattle.std.specs.List.{before_first}
use Rattle.std.specs.Str.{bytes_eq, is_utf8}
use Rattle.change_ops.specs.Reading.{header_at}
use Rattle.change_ops.specs.Changes.{Header, limited_header}
use Rattle.session_lines.specs.Lines.{joined}

-- the first word of a change's first line, of any form
abbrev pub begins_change : List ℕ → Bool
begins_change word =
    (bytes_eq word (codes "change") || bytes_eq word (codes "change2")) || bytes_eq word (codes "change3")

-- a line whose first word, what stands before the first space, begins a change
abbrev pub is_header : List ℕ → Bool
is_header line = begins_change (before_first (λ b. b == 32) line)

-- the form, the node and the count of a right first line of a change
abbrev pub right_header : List ℕ → Option Header
right_header line = option_and_then limited_header (header_at line)

-- how many lines follow a first line: a change's, where it is the right header of one, and else none
abbrev pub followers : Option Header → ℕ
followers None = 0
followers (Some header) = header.2

-- a line as it is read in a change: one that isn't UTF-8 has no form, just as the empty one
abbrev pub legible : List ℕ → List ℕ
legible line = if is_utf8 line then line else []

-- the text that the lines of a change are read as
abbrev pub text_of : List (List ℕ) → List ℕ
text_of lines = joined (map legible lines)
