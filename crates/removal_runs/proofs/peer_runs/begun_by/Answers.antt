use Rattle.std.proofs.Common.{Bool, rules, ◌^◌}
use Rattle.std.specs.Prelude.{nat_le}
use Rattle.std.proofs.lemmas.List.Sorted.{IsPartitionPoint-from_clause, IsPartitionedBy-leb}
use Rattle.removal_runs.specs.Removals.{begin_of_run, end_of_run}
use Rattle.removal_runs.specs.declared.run.Run.{Run}
use Rattle.removal_runs.proofs.Apart.{begins_rise}
use Rattle.removal_runs.proofs.Placing.{have_begun}
use Rattle.removal_runs.proofs.peer_runs.begun_by.Goals as goal

pub returns : goal.returns
returns c =
    let runs = c.args.runs.now in
    let p : Run → Bool = λ run. nat_le run.counter c.args.counter in
    let point = IsPartitionPoint-from_clause p runs c.partition_point.result c.partition_point.ensures.partitioned
    (IsPartitionedBy-leb begin_of_run runs c.args.counter (begins_rise begin_of_run end_of_run 0 runs (2 ^ 48) c.requires.apart)) (λ a r f called. search rules) in
    have_begun begin_of_run runs c.args.counter c.partition_point.result c.partition_point.ensures.bound point
