-- Numbers that terms weigh at least.
use Rattle.std.proofs.Common.{◌≡◌, ℕ, ℤ, pos, ◌≤◌, ◌*ℤ◌, ◌≤ℤ◌, ◌<ℤ◌, Bool, true, false, cond, int_lt, Option, Some, None, option_map, refl, sym, subst, arith}
use Rattle.std.proofs.lemmas.Int.{ints}
use Rattle.std.specs.Ordering.{int_eq}
use Rattle.intervals.specs.Interval.{Interval, interval_of}
use Rattle.semantics.specs.State.{State}
use Rattle.abstract_state.specs.declared.quantity.Quantity.{Quantity}
use Rattle.abstract_state.specs.declared.state.AbsState.{AbsState}
use Rattle.abstract_state.specs.Lent.{Lengths}
use Rattle.abstract_state.specs.State.{Contains}
use Rattle.label_potentials.specs.declared.potential.Term.{Term}
use Rattle.label_potentials.specs.Views.{weight_at}
use Rattle.label_potentials.specs.Counts.{counted_in, Counts}
use Rattle.label_potentials.proofs.Sums.{no_weight_at, zero_weight}
use Rattle.label_potentials.proofs.Held.{IsWhole, counted_sound}
use Rattle.potential_edges.specs.Leasts.{lightest, weighed_at_end, least_in}
use Rattle.potential_edges.proofs.Products.{rises, falls}

-- in each contained state a term weighs no less than a number
abbrev pub WeighsAtLeast : AbsState → Term → ℤ → Type 0
WeighsAtLeast a term number =
    (lengths : Lengths) (s : State) → Contains a lengths s → number ≤ℤ weight_at s term

lightest_least : (weight : ℤ) (range : Interval) (x : ℕ) → range.low ≤ x → x ≤ range.high
    → (weight *ℤ pos (lightest weight range)) ≤ℤ (weight *ℤ pos x)
lightest_least weight range x low high = go (int_lt weight (pos 0)) refl
  where
    go : (b : Bool) → int_lt weight (pos 0) ≡ b
        → (weight *ℤ pos (cond b range.high range.low)) ≤ℤ (weight *ℤ pos x)
    go true e =
        let negative : weight <ℤ pos 0 = omega (arith, ints) in falls weight x range.high negative high
    go false e =
        let natural : pos 0 ≤ℤ weight = omega (arith, ints) in rises weight range.low x natural low

weighs_least : (a : AbsState) (term : Term) (q : Quantity) → Counts a term.holder term.base q
    → WeighsAtLeast a term (weighed_at_end term.weight q)
weighs_least a term q counts lengths s c =
    let x = counts lengths s c in
    subst (λ z. weighed_at_end term.weight q ≤ℤ (term.weight *ℤ z)) (sym x.1)
    (lightest_least term.weight (interval_of q.range) x.0 x.2.range.low x.2.range.high)

zero_least : (z : ℤ) → z ≡ pos 0 → pos 0 ≤ℤ z
zero_least z e = omega (arith, ints)

pub least_sound : (a : AbsState) (term : Term) (least : ℤ) → IsWhole a → least_in a term ≡ Some least
    → WeighsAtLeast a term least
least_sound a term least whole e = by_weight (int_eq term.weight (pos 0)) refl e
  where
    by_count : (o : Option Quantity) → counted_in a term.holder term.base ≡ o
        → option_map (weighed_at_end term.weight) o ≡ Some least → WeighsAtLeast a term least
    by_count None is f = absurd (cc)
    by_count (Some q) is f =
        let same : weighed_at_end term.weight q ≡ least = cc in
        subst (λ z. WeighsAtLeast a term z) same
        (weighs_least a term q (counted_sound a term.holder term.base q whole is))

    by_weight : (b : Bool) → int_eq term.weight (pos 0) ≡ b
        → cond b (Some (pos 0)) (option_map (weighed_at_end term.weight) (counted_in a term.holder term.base))
        ≡ Some least → WeighsAtLeast a term least
    by_weight true none f =
        let same : pos 0 ≡ least = cc in
        subst (λ z. WeighsAtLeast a term z) same
        (λ lengths s c. zero_least (weight_at s term) (no_weight_at s term (zero_weight term.weight none)))
    by_weight false some f = by_count (counted_in a term.holder term.base) refl f
