-- Facts that a store leaves as they are.
use Rattle.std.specs.Prelude.{◌≢◌, ◌⊎◌, ℕ, ◌+◌, ◌*◌, ◌/◌, ◌≤◌}
use Rattle.guarded_rules.specs.Facts.{Register, Slot, Fact, Holds, Long, Stored}

-- a fact isn't of a slot of the stack
abbrev pub IsBeside : ℕ → Fact → Type 0
IsBeside i (Holds (Register r) v) = Unit {0}
IsBeside i (Holds (Slot j) v) = j ≢ i
IsBeside i (Long region n) = Unit {0}
IsBeside i (Stored at) = at / 8 ≢ i

-- a slot has none of count bytes from an offset on
abbrev pub IsOutside : ℕ → ℕ → ℕ → Type 0
IsOutside i offset count = (8 * i + 8 ≤ offset) ⊎ (offset + count ≤ 8 * i)

-- a fact is of no slot that has some of them
abbrev pub IsSpared : ℕ → ℕ → Fact → Type 0
IsSpared offset count (Holds (Register r) v) = Unit {0}
IsSpared offset count (Holds (Slot j) v) = IsOutside j offset count
IsSpared offset count (Long region n) = Unit {0}
IsSpared offset count (Stored at) = Unit {0}
