-- What is kept of an input while it is read.
use Rattle.std.specs.Prelude.{◌≡◌, ℕ, List, ◌++◌, Option, Some, None}

-- what is kept of what was read since a reader had these bytes, where they are known
abbrev pub HasRead : {K : Type 0} → (List ℕ → K → Type 0) → Option (List ℕ) → Option (List ℕ) → K → Type 0
HasRead Keeps None new kept = Unit {0}
HasRead Keeps (Some input) None kept = ⊥
HasRead Keeps (Some input) (Some rest) kept = (front : List ℕ) × (input ≡ front ++ rest) × Keeps front kept
