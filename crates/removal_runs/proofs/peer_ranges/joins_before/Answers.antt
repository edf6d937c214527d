use Rattle.std.proofs.Common.{◌≡◌, ◌+◌, ◌-◌, ◌<◌, ◌≤◌, ◌^◌, Some, length, get_or, sym, ap, ◌∙◌, arith, rules, eq-eqb, eqb-true}
use Rattle.std.specs.List.{slice_get}
use Rattle.std.proofs.lemmas.Option.{same_Some, slice_get-get_or}
use Rattle.removal_runs.specs.IdSets.{begin_of_range, end_of_range}
use Rattle.removal_runs.specs.declared.peer_ranges.Range.{Range}
use Rattle.removal_runs.proofs.Apart.{high_is_above}
use Rattle.removal_runs.proofs.peer_ranges.joins_before.Goals as goal

pub overflow_add-result : goal.overflow_add-result
overflow_add-result c =
    let ranges = c.args.ranges.now in
    let none : Range = record { first = 0; last = 0 } in
    let within : c.args.place - 1 < length ranges = omega (arith, c.requires.within, c.if-place-gt0.true) in
    let high : (get_or ranges (c.args.place - 1) none).last + 1 ≤ 2 ^ 48 = high_is_above begin_of_range end_of_range 0 ranges (2 ^ 48) (c.args.place - 1) (get_or ranges (c.args.place - 1) none) c.requires.ranges (slice_get-get_or ranges (c.args.place - 1) none within) in
    search rules

pub returns-then-place-gt0 : goal.returns-then-place-gt0
returns-then-place-gt0 c =
    let ranges = c.args.ranges.now in
    let none : Range = record { first = 0; last = 0 } in
    let range : Range = get_or ranges (c.args.place - 1) none in
    let within : c.args.place - 1 < length ranges = omega (arith, c.requires.within, c.if-place-gt0.true) in
    let at : slice_get ranges (c.args.place - 1) ≡ Some range = slice_get-get_or ranges (c.args.place - 1) none within in (
      λ test. record { range = range; some = omega (arith, c.if-place-gt0.true); at = at; next = eqb-true (range.last + 1) c.args.counter test },
      λ joins. eq-eqb (range.last + 1) c.args.counter (ap (λ (r : Range). r.last + 1) (same_Some range joins.range (sym at ∙ joins.at)) ∙ joins.next),
    )
