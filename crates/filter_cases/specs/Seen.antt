-- What a call lends, as bytes.
use Rattle.std.specs.Prelude.{ℕ, List, Option, Some, None}
use Rattle.std.specs.Borrow.{Bor}

-- a byte, and the text after it
abbrev pub escaped : Option (ℕ × Bor (List ℕ)) → Option (ℕ × List ℕ)
escaped None = None
escaped (Some x) = Some (x.0, x.1.now)
