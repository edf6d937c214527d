use Rattle.std.proofs.Common.{Bool, arith, rules}
use Rattle.std.specs.Prelude.{nat_le}
use Rattle.std.proofs.lemmas.List.Sorted.{IsPartitionPoint-from_clause, IsPartitionedBy-leb}
use Rattle.mark_anchors.specs.CommentLists.{begin_of}
use Rattle.mark_anchors.specs.declared.comment_runs.CommentRun.{CommentRun}
use Rattle.mark_anchors.proofs.Counting.{count_from_point, up_to_point, past_point}
use Rattle.mark_anchors.proofs.comment_table.begun_up_to.Goals as goal

pub returns-clause-count : goal.returns-clause-count
returns-clause-count c =
    let p : CommentRun → Bool = λ run. nat_le (begin_of run) c.args.place in
    let point = IsPartitionPoint-from_clause p c.args.begins.now c.partition_point.result c.partition_point.ensures.partitioned (IsPartitionedBy-leb begin_of c.args.begins.now c.args.place c.requires) (λ a r f called. search rules) in
    count_from_point p c.args.begins.now c.partition_point.result c.partition_point.ensures.bound (λ k d less. point.0 k d (omega arith) less) (λ k d low within. point.1 k d low within)

pub returns-clause-first : goal.returns-clause-first
returns-clause-first c =
    let p : CommentRun → Bool = λ run. nat_le (begin_of run) c.args.place in
    let point = IsPartitionPoint-from_clause p c.args.begins.now c.partition_point.result c.partition_point.ensures.partitioned (IsPartitionedBy-leb begin_of c.args.begins.now c.args.place c.requires) (λ a r f called. search rules) in
    λ k d less. up_to_point begin_of c.args.begins.now k c.args.place d (point.0 k d (omega arith) less)

pub returns-clause-rest : goal.returns-clause-rest
returns-clause-rest c =
    let p : CommentRun → Bool = λ run. nat_le (begin_of run) c.args.place in
    let point = IsPartitionPoint-from_clause p c.args.begins.now c.partition_point.result c.partition_point.ensures.partitioned (IsPartitionedBy-leb begin_of c.args.begins.now c.args.place c.requires) (λ a r f called. search rules) in
    λ k d low within. past_point begin_of c.args.begins.now k c.args.place d (point.1 k d low within)
