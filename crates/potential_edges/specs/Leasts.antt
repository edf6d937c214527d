-- A number that a term weighs at least: what it weighs at one of the interval's ends.
use Rattle.std.specs.Prelude.{ℕ, ℤ, pos, ◌*ℤ◌, int_lt, if◌then◌else◌, Option, Some, option_map}
use Rattle.std.specs.Ordering.{int_eq}
use Rattle.intervals.specs.Interval.{Interval, interval_of}
use Rattle.abstract_state.specs.declared.quantity.Quantity.{Quantity}
use Rattle.abstract_state.specs.declared.state.AbsState.{AbsState}
use Rattle.label_potentials.specs.declared.potential.Term.{Term}
use Rattle.label_potentials.specs.Counts.{counted_in}

abbrev pub lightest : ℤ → Interval → ℕ
lightest weight range = if int_lt weight (pos 0) then range.high else range.low

abbrev pub weighed_at_end : ℤ → Quantity → ℤ
weighed_at_end weight q = weight *ℤ pos (lightest weight (interval_of q.range))

-- a term of weight 0 counts nothing
abbrev pub least_in : AbsState → Term → Option ℤ
least_in a term =
    if int_eq term.weight (pos 0) then Some (pos 0)
    else option_map (weighed_at_end term.weight) (counted_in a term.holder term.base)
