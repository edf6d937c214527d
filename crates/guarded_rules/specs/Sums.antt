-- What sums and differences say, by what is said of both operands.
use Rattle.std.specs.Prelude.{◌≡◌, ℕ, ◌+◌, ◌-◌, ◌^◌, ◌<◌, ◌≤◌, true}
use Rattle.span_context.specs.declared.profile.Profile.{Profile}
use Rattle.span_context.specs.Profile.{has_more_rules}
use Rattle.bpf_words.specs.declared.instruction.Width.{Width}
use Rattle.semantics.specs.Value.{bits_of}
use Rattle.abstract_state.specs.declared.region.Region.{Region}
use Rattle.guarded_rules.specs.Facts.{Property, Any, AtLeast, AtMost, Behind}

-- what holds of one number
abbrev pub Exactly : ℕ → Property → Type 0
Exactly n Any = Unit {0}
Exactly n (AtLeast m) = m ≤ n
Exactly n (AtMost m) = n ≤ m
Exactly n (Behind r m) = ⊥

-- a sum that fits its width; as many bytes stand behind it as behind the first operand, less what the second is at
-- most; by more rules also the other way round
pub data Adds (profile : Profile) (width : Width) (First Second : Property → Type 0) : Property → Type 0 where
  adds_word : Adds profile width First Second (AtMost (2 ^ bits_of width - 1))
  adds_least : (m n high more : ℕ) → First (AtLeast m) → Second (AtLeast n) → First (AtMost high) → Second (AtMost more)
      → high + more < 2 ^ bits_of width → Adds profile width First Second (AtLeast (m + n))
  adds_most : (m n : ℕ) → First (AtMost m) → Second (AtMost n) → m + n < 2 ^ bits_of width
      → Adds profile width First Second (AtMost (m + n))
  adds_behind : (r : Region) (n most : ℕ) → First (Behind r (n + most)) → Second (AtMost most)
      → Adds profile width First Second (Behind r n)
  adds_second : (r : Region) (n most : ℕ) → has_more_rules profile ≡ true → Second (Behind r (n + most))
      → First (AtMost most) → Adds profile width First Second (Behind r n)

-- a difference of a number and one that is no greater
pub data Takes (First Second : Property → Type 0) : Property → Type 0 where
  takes_least : (m more : ℕ) → First (AtLeast m) → Second (AtMost more) → more ≤ m
      → Takes First Second (AtLeast (m - more))
  takes_most : (m more high n : ℕ) → First (AtLeast m) → Second (AtMost more) → more ≤ m → First (AtMost high)
      → Second (AtLeast n) → Takes First Second (AtMost (high - n))
  takes_behind : (m more n : ℕ) (r : Region) (t : ℕ) → First (AtLeast m) → Second (AtMost more) → more ≤ m
      → First (Behind r t) → Second (AtLeast n) → t + n < 2 ^ 32 → Takes First Second (Behind r (t + n))

-- a number of which the sign bit is 0 is added; a constant of which it is 1 is taken away as what it lacks
pub data Sums (profile : Profile) (width : Width) (First Second : Property → Type 0) : Property → Type 0 where
  adds : {p : Property} (most : ℕ) → Second (AtMost most) → most < 2 ^ (bits_of width - 1)
      → Adds profile width First Second p → Sums profile width First Second p
  takes : {p : Property} (n : ℕ) → Second (AtLeast n) → Second (AtMost n) → 2 ^ (bits_of width - 1) ≤ n
      → n < 2 ^ bits_of width → Takes First (Exactly (2 ^ bits_of width - n)) p → Sums profile width First Second p
