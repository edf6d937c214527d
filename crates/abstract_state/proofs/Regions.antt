-- The two lent regions.
use Rattle.std.proofs.Common.{◌≡◌, ℕ, ◌^◌, ◌≤◌, refl, arith}
use Rattle.abstract_state.specs.declared.region.Region.{Region}
use Rattle.abstract_state.specs.declared.region.Region.TheVariants.{Text, Link}
use Rattle.abstract_state.specs.Lent.{Lengths, limit_of, length_of, begin_field, end_field}

-- what holds of both holds of each
pub each : (P : Region → Type 0) → P Text → P Link → (region : Region) → P region
each P text link Text = text
each P text link Link = link

pub limit_low : (region : Region) → limit_of region ≤ 131072
limit_low Text = omega arith
limit_low Link = omega arith

pub limit_power : (region : Region) → (j : ℕ) × (limit_of region ≡ 2 ^ j)
limit_power Text = (17, refl)
limit_power Link = (10, refl)

pub begin_low : (region : Region) → begin_field region ≤ 64
begin_low Text = omega arith
begin_low Link = omega arith

pub end_low : (region : Region) → end_field region ≤ 64
end_low Text = omega arith
end_low Link = omega arith

-- each region as long as it may be
abbrev pub longest : Lengths
longest = record { text = 131072; short = omega arith; link = 1024; link_short = omega arith }

pub longest_is : (region : Region) → length_of longest region ≡ limit_of region
longest_is Text = refl
longest_is Link = refl
