-- What a writer in pieces was given.
use Rattle.std.specs.Prelude.{◌≡◌, ℕ, List, Option}
use Rattle.std.specs.Io.KnownBytes.{Appends, append_known}
use Rattle.span_lines.specs.declared.writing.Pieces.{Pieces}

-- the bytes of the writer behind it, and then what is gathered
abbrev pub given : {W : Type 0} → (W → Option (List ℕ)) → Pieces W → Option (List ℕ)
given contents p = append_known (contents p.writer.now) p.piece.bytes

-- it was given these bytes, and has the same writer behind it
abbrev pub Takes : {W : Type 0} → (W → Option (List ℕ)) → Pieces W → List ℕ → Pieces W → Type 0
Takes contents old bs new =
    Appends (given contents old) (given contents new) bs × (new.writer.ghost_name ≡ old.writer.ghost_name)
