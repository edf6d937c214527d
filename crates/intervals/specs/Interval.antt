-- An interval as its two ends, and what each operation makes of it.
use Rattle.std.specs.Prelude.{ℕ, ◌+◌, ◌-◌, ◌*◌, ◌/◌, ◌^◌, nat_lt, nat_le, if◌then◌else◌, min, max, Option, Some, None}
use Rattle.intervals.specs.declared.Range.{Range}

pub record Interval : Type 0 where
  pub low : ℕ
  pub high : ℕ

abbrev pub interval_of : Range → Interval
interval_of r = record { low = r.low; high = r.high }

-- the numbers from low to high
abbrev pub from_to : ℕ → ℕ → Interval
from_to low high = record { low = low; high = high }

abbrev pub every_word : Interval
every_word = from_to 0 (2 ^ 64 - 1)

-- the interval, or every number where its end has more than 64 bits
abbrev pub in_word : Interval → Interval
in_word a = if nat_lt a.high (2 ^ 64) then a else every_word

unfoldable pub sum_between : Interval → Interval → Interval
sum_between a b = in_word (from_to (a.low + b.low) (a.high + b.high))

-- every number, where a difference may be negative
unfoldable pub difference_between : Interval → Interval → Interval
difference_between a b = if nat_le b.high a.low then from_to (a.low - b.high) (a.high - b.low) else every_word

unfoldable pub product_between : Interval → Interval → Interval
product_between a b = in_word (from_to (a.low * b.low) (a.high * b.high))

-- where the divisor may be 0 the quotient may be 0, and is no more than the dividend
unfoldable pub quotient_between : Interval → Interval → Interval
quotient_between a b = if nat_lt 0 b.low then from_to (a.low / b.high) (a.high / b.low) else from_to 0 a.high

-- where the divisor may be 0 the remainder may be the dividend
unfoldable pub remainder_between : Interval → Interval → Interval
remainder_between a b = if nat_lt 0 b.low then from_to 0 (min a.high (b.high - 1)) else from_to 0 a.high

-- the bits that two numbers have in common are no more than either
unfoldable pub and_between : Interval → Interval → Interval
and_between a b = from_to 0 (min a.high b.high)

unfoldable pub shifted_left_between : ℕ → Interval → Interval
shifted_left_between n a = in_word (from_to (a.low * 2 ^ n) (a.high * 2 ^ n))

unfoldable pub shifted_right_between : ℕ → Interval → Interval
shifted_right_between n a = from_to (a.low / 2 ^ n) (a.high / 2 ^ n)

-- the low 32 bits of its numbers
unfoldable pub low_between : Interval → Interval
low_between a = if nat_lt a.high (2 ^ 32) then a else from_to 0 (2 ^ 32 - 1)

unfoldable pub hull_of : Interval → Interval → Interval
hull_of a b = from_to (min a.low b.low) (max a.high b.high)

-- the numbers from low to high, if there are any
abbrev pub some_between : ℕ → ℕ → Option Interval
some_between low high = if nat_le low high then Some (from_to low high) else None
