use Rattle.std.proofs.Common.{◌<◌, ◌≤◌, Bool, get_or, sym, ◌∙◌, arith, rules, ⊎_elim}
use Rattle.std.specs.Prelude.{nat_lt}
use Rattle.std.proofs.lemmas.Bool.{cases_lt, ltb-true, lt-ltb, false≢true}
use Rattle.std.proofs.lemmas.List.Sorted.{IsPartitionPoint-from_clause, IsPartitionedBy-ltb}
use Rattle.mark_places.specs.declared.range.PlaceRange.{PlaceRange}
use Rattle.mark_places.proofs.Ranges.{lows_rise}
use Rattle.mark_places.proofs.range.begun_before.Goals as goal

pub returns-clause-first : goal.returns-clause-first
returns-clause-first c =
    let p : PlaceRange → Bool = λ range. nat_lt range.low c.args.place in
    let point = IsPartitionPoint-from_clause p c.args.ranges.now c.partition_point.result c.partition_point.ensures.partitioned
    (IsPartitionedBy-ltb (λ (range : PlaceRange). range.low) c.args.ranges.now c.args.place (lows_rise c.args.ranges.now 0 c.requires.0 c.requires.1)) (λ a r f called. search rules) in
    λ k d less. ltb-true (get_or c.args.ranges.now k d).low c.args.place (point.0 k d (omega arith) less)

pub returns-clause-rest : goal.returns-clause-rest
returns-clause-rest c =
    let p : PlaceRange → Bool = λ range. nat_lt range.low c.args.place in
    let point = IsPartitionPoint-from_clause p c.args.ranges.now c.partition_point.result c.partition_point.ensures.partitioned
    (IsPartitionedBy-ltb (λ (range : PlaceRange). range.low) c.args.ranges.now c.args.place (lows_rise c.args.ranges.now 0 c.requires.0 c.requires.1)) (λ a r f called. search rules) in
    λ k d low within.
    ⊎_elim
    (λ (before : (get_or c.args.ranges.now k d).low < c.args.place).
    absurd (false≢true (sym (point.1 k d low within) ∙ lt-ltb (get_or c.args.ranges.now k d).low c.args.place before)))
    (λ (from : c.args.place ≤ (get_or c.args.ranges.now k d).low). from)
    (cases_lt (get_or c.args.ranges.now k d).low c.args.place)
