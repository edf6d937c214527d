-- Which numbers an interval contains.
use Rattle.std.specs.Prelude.{◌≡◌, ℕ, ◌≤◌, ◌/◌, ◌%◌, ◌==◌, if◌then◌else◌, Option, Some}
use Rattle.intervals.specs.declared.Range.{Range}

pub record Contains (r : Range) (x : ℕ) : Type 0 where
  pub low : r.low ≤ x
  pub high : x ≤ r.high

-- r contains f x for each x of a
abbrev pub Maps : Range → Range → (ℕ → ℕ) → Type 0
Maps a r f = (x : ℕ) → Contains a x → Contains r (f x)

-- r contains f x y for each x of a and y of b
abbrev pub MapsBoth : Range → Range → Range → (ℕ → ℕ → ℕ) → Type 0
MapsBoth a b r f = (x y : ℕ) → Contains a x → Contains b y → Contains r (f x y)

-- division by 0 gives 0
abbrev pub quotient : ℕ → ℕ → ℕ
quotient x y = if y == 0 then 0 else x / y

-- the remainder by 0 is the dividend
abbrev pub remainder : ℕ → ℕ → ℕ
remainder x y = if y == 0 then x else x % y

-- the ends of r
abbrev pub Spans : Range → ℕ → ℕ → Type 0
Spans r low high = (r.low ≡ low) × (r.high ≡ high)

-- x is in the interval, which is there
abbrev pub Within : Option Range → ℕ → Type 0
Within o x = (r : Range) × (o ≡ Some r) × Contains r x
