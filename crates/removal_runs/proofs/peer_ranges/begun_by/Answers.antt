use Rattle.std.proofs.Common.{Bool, rules, ◌^◌}
use Rattle.std.specs.Prelude.{nat_le}
use Rattle.std.proofs.lemmas.List.Sorted.{IsPartitionPoint-from_clause, IsPartitionedBy-leb}
use Rattle.removal_runs.specs.IdSets.{begin_of_range, end_of_range}
use Rattle.removal_runs.specs.declared.peer_ranges.Range.{Range}
use Rattle.removal_runs.proofs.Apart.{begins_rise}
use Rattle.removal_runs.proofs.Placing.{have_begun}
use Rattle.removal_runs.proofs.peer_ranges.begun_by.Goals as goal

pub returns : goal.returns
returns c =
    let ranges = c.args.ranges.now in
    let p : Range → Bool = λ range. nat_le range.first c.args.counter in
    let point = IsPartitionPoint-from_clause p ranges c.partition_point.result c.partition_point.ensures.partitioned
    (IsPartitionedBy-leb begin_of_range ranges c.args.counter (begins_rise begin_of_range end_of_range 0 ranges (2 ^ 48) c.requires)) (λ a r f called. search rules) in
    have_begun begin_of_range ranges c.args.counter c.partition_point.result c.partition_point.ensures.bound point
