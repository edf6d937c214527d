use Rattle.std.proofs.Common.{Bool, arith, rules}
use Rattle.std.specs.Prelude.{nat_le}
use Rattle.std.proofs.lemmas.List.Sorted.{IsPartitionPoint-from_clause, IsPartitionedBy-leb}
use Rattle.mark_anchors.proofs.Counting.{up_to_point, past_point}
use Rattle.mark_places.specs.declared.range.PlaceRange.{PlaceRange}
use Rattle.mark_places.proofs.Ranges.{highs_rise}
use Rattle.mark_places.proofs.range.ended_up_to.Goals as goal

pub returns-clause-first : goal.returns-clause-first
returns-clause-first c =
    let p : PlaceRange → Bool = λ range. nat_le range.high c.args.place in
    let point = IsPartitionPoint-from_clause p c.args.ranges.now c.partition_point.result c.partition_point.ensures.partitioned
    (IsPartitionedBy-leb (λ (range : PlaceRange). range.high) c.args.ranges.now c.args.place (highs_rise c.args.ranges.now 0 c.requires.0 c.requires.1)) (λ a r f called. search rules) in
    λ k d less. up_to_point (λ (range : PlaceRange). range.high) c.args.ranges.now k c.args.place d (point.0 k d (omega arith) less)

pub returns-clause-rest : goal.returns-clause-rest
returns-clause-rest c =
    let p : PlaceRange → Bool = λ range. nat_le range.high c.args.place in
    let point = IsPartitionPoint-from_clause p c.args.ranges.now c.partition_point.result c.partition_point.ensures.partitioned
    (IsPartitionedBy-leb (λ (range : PlaceRange). range.high) c.args.ranges.now c.args.place (highs_rise c.args.ranges.now 0 c.requires.0 c.requires.1)) (λ a r f called. search rules) in
    λ k d low within. past_point (λ (range : PlaceRange). range.high) c.args.ranges.now k c.args.place d (point.1 k d low within)
