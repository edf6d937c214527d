-- What a test says of its sides, by what is said of both.
use Rattle.std.specs.Prelude.{◌≡◌, ℕ, ◌+◌, ◌^◌, ◌<◌, Option, Some, None}
use Rattle.abstract_state.specs.declared.region.Region.{Region}
use Rattle.abstract_state.specs.declared.relation.Relation.{Relation}
use Rattle.abstract_state.specs.declared.relation.Relation.TheVariants as relation
use Rattle.abstract_state.specs.Estimate.{Estimate}
use Rattle.abstract_state.specs.Comparing.{Told}
use Rattle.guarded_rules.specs.Facts.{Kind, Property, AtLeast, AtMost, Behind}
use Rattle.guarded_rules.specs.Says.{Says}

pub data Side : Type 0 where
  Left : Side
  Right : Side

abbrev pub other : Side → Side
other Left = Right
other Right = Left

abbrev pub at_side : Side → Estimate → Estimate → Estimate
at_side Left x y = x
at_side Right x y = y

abbrev pub told_at : Side → Told → Estimate
told_at Left t = t.left
told_at Right t = t.right

-- what a test tells of a side; where no run comes, everything
abbrev pub ToldSays : Kind → Side → Property → Option Told → Type 0
ToldSays k side p None = Unit {0}
ToldSays k side p (Some t) = Says k p (told_at side t)

-- a side and so many more are at most the other side
pub data IsBefore : Relation → Side → ℕ → Type 0 where
  less : IsBefore relation.Less Left 1
  at_most : IsBefore relation.AtMost Left 0
  at_least : IsBefore relation.AtLeast Right 0
  greater : IsBefore relation.Greater Right 1

-- a side keeps what it was; of two in order the first is at most what the second is at most, and as many bytes stand
-- behind it, and the second is at least what the first is at least; of two that are alike each is what the other is;
-- of two that differ an end that is the other's one number moves
pub data Tells (r : Relation) (Before : Side → Property → Type 0) : Side → Property → Type 0 where
  kept : {p : Property} (side : Side) → Before side p → Tells r Before side p
  most : (first : Side) (m n : ℕ) → IsBefore r first n → Before (other first) (AtMost (m + n))
      → Tells r Before first (AtMost m)
  behind : (first : Side) (m n : ℕ) (region : Region) → IsBefore r first n → Before (other first) (Behind region m)
      → m + n < 2 ^ 32 → Tells r Before first (Behind region (m + n))
  least : (first : Side) (m n : ℕ) → IsBefore r first n → Before first (AtLeast m)
      → Tells r Before (other first) (AtLeast (m + n))
  alike : {p : Property} (side : Side) → r ≡ relation.Same → Before (other side) p → Tells r Before side p
  past : (side : Side) (n : ℕ) → r ≡ relation.Apart → Before side (AtLeast n) → Before (other side) (AtLeast n)
      → Before (other side) (AtMost n) → Tells r Before side (AtLeast (n + 1))
  short : (side : Side) (n : ℕ) → r ≡ relation.Apart → Before side (AtMost (n + 1))
      → Before (other side) (AtLeast (n + 1)) → Before (other side) (AtMost (n + 1)) → Tells r Before side (AtMost n)

-- by what is said of both sides the test doesn't come out so
pub data Excludes (r : Relation) (Before : Side → Property → Type 0) : Type 0 where
  order : (first : Side) (m l n : ℕ) → IsBefore r first n → Before first (AtLeast m)
      → Before (other first) (AtMost l) → l < m + n → Excludes r Before
  unlike : (side : Side) (m l : ℕ) → r ≡ relation.Same → Before side (AtLeast m) → Before (other side) (AtMost l)
      → l < m → Excludes r Before
