-- The regions that a run is lent to read, and what a tail says of a number.
use Rattle.std.specs.Prelude.{◌≡◌, ℕ, ◌+◌, ◌≤◌, Option, Some}
use Rattle.span_context.specs.declared.profile.Profile.{Profile}
use Rattle.span_context.specs.declared.profile.Profile.TheVariants.{One, Two, Three}
use Rattle.span_context.specs.Context.{text_base, text_limit, link_base, link_limit}
use Rattle.intervals.specs.declared.Range.{Range}
use Rattle.intervals.specs.Range as interval
use Rattle.abstract_state.specs.declared.region.Region.{Region}
use Rattle.abstract_state.specs.declared.region.Region.TheVariants.{Text, Link}
use Rattle.abstract_state.specs.declared.region.Tails.{Tails}
use Rattle.abstract_state.specs.declared.bounds.Bounds.{Bounds}

-- how many bytes each region has in a run, within its limit
pub record Lengths : Type 0 where
  pub text : ℕ
  pub short : text ≤ text_limit
  pub link : ℕ
  pub link_short : link ≤ link_limit

abbrev pub length_of : Lengths → Region → ℕ
length_of lengths Text = lengths.text
length_of lengths Link = lengths.link

-- where each region begins, and how many bytes it may have
abbrev pub base_of : Region → ℕ
base_of Text = text_base
base_of Link = link_base

abbrev pub limit_of : Region → ℕ
limit_of Text = text_limit
limit_of Link = link_limit

-- the offsets in the context of the addresses at which each begins and ends
abbrev pub begin_field : Region → ℕ
begin_field Text = 0
begin_field Link = 56

abbrev pub end_field : Region → ℕ
end_field Text = 8
end_field Link = 64

-- the text is lent in each profile, the link's text in all but the first
abbrev pub Lends : Region → Profile → Type 0
Lends Text profile = Unit {0}
Lends Link One = ⊥
Lends Link Two = Unit {0}
Lends Link Three = Unit {0}

abbrev pub tail_of : Tails → Region → Option ℕ
tail_of tails Text = tails.text
tail_of tails Link = tails.link

abbrev pub bound_of : Bounds → Region → ℕ
bound_of bounds Text = bounds.text
bound_of bounds Link = bounds.link

-- with a tail t, x + t is at most the length
abbrev pub HasTail : Option ℕ → ℕ → ℕ → Type 0
HasTail tail long x = (t : ℕ) → tail ≡ Some t → x + t ≤ long

pub record HasTails (tails : Tails) (lengths : Lengths) (x : ℕ) : Type 0 where
  pub text : HasTail tails.text lengths.text x
  pub link : HasTail tails.link lengths.link x

-- the words of the crate of intervals
abbrev pub InRange : Range → ℕ → Type 0
InRange r x = interval.Contains r x

abbrev pub InRanges : Option Range → ℕ → Type 0
InRanges o x = interval.Within o x
