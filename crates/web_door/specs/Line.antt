-- What a session reads of a text message.
use Rattle.std.specs.Prelude.{ℕ, ◌-◌, ◌==◌, Bool, false, true, not, List, [], ◌∷◌, ◌++◌, length}
use Rattle.std.specs.Prelude.{Option, None, Some, slice_get}

abbrev pub is_line_end : Option ℕ → Bool
is_line_end None = false
is_line_end (Some byte) = byte == 10

-- the last byte of a text is a LF
abbrev pub ends_line : List ℕ → Bool
ends_line text = is_line_end (slice_get text (length text - 1))

-- the LF that a text lacks
abbrev pub missing_end : Bool → List ℕ
missing_end false = []
missing_end true = 10 ∷ []

-- a message as lines: with a LF at its end where it has none
abbrev pub line_of : List ℕ → List ℕ
line_of text = text ++ missing_end (not (ends_line text))
