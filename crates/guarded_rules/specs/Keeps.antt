-- What a rule on numbers keeps of their bounds and tails, whatever is known of bits.
use Rattle.std.specs.Prelude.{◌≡◌, ◌≤◌, Option, Some, None}
use Rattle.intervals.specs.Interval.{Interval}
use Rattle.abstract_state.specs.declared.region.Tails.{Tails}
use Rattle.abstract_state.specs.Estimate.{Estimate}

-- an interval, if it is there, holds a number and lies in another
abbrev pub Inside : Interval → Option Interval → Type 0
Inside a None = Unit {0}
Inside a (Some r) = (a.low ≤ r.low) × (r.low ≤ r.high) × (r.high ≤ a.high)

-- an estimate holds a number, lies in an interval, and has these tails
pub record IsKept (a : Interval) (same : Tails) (e : Estimate) : Type 0 where
  pub low : a.low ≤ e.range.low
  pub proper : e.range.low ≤ e.range.high
  pub high : e.range.high ≤ a.high
  pub tails : e.tails ≡ same

abbrev pub Keeps : Interval → Tails → Option Estimate → Type 0
Keeps a same None = Unit {0}
Keeps a same (Some e) = IsKept a same e
