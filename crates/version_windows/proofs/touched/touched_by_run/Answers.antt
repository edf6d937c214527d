use Rattle.std.proofs.Common.{length, ap, arith}
use Rattle.change_ops.proofs.RunLaws.{run_limits}
use Rattle.version_windows.proofs.Runs.{run_touched, run_order}
use Rattle.version_windows.proofs.touched.touched_by_run.Goals as goal

pub returns-clause-touched : goal.returns-clause-touched
returns-clause-touched c =
    let run = c.args.run.now in
    let limits = run_limits run c.characters-count.ensures.limits in
    let size = ap length c.characters-count.ensures.value in
    λ all removals.
    run_touched c.requires.0 c.args.sequence.now.elements c.requires.1 run.id run.parent run.characters c.requires.3 all c.insert-first.result c.insert-last.result
    (length c.characters-count.result.now) c.touched_by_operation-low.result.low c.touched_by_operation-low.result.high c.touched_by_operation-high.result.low c.touched_by_operation-high.result.high
    (omega (arith, limits.some, size)) size c.insert-first.ensures c.insert-last.ensures (c.touched_by_operation-low.ensures.touched all removals) (c.touched_by_operation-high.ensures.touched all removals)

pub returns-clause-order : goal.returns-clause-order
returns-clause-order c =
    let run = c.args.run.now in
    let limits = run_limits run c.characters-count.ensures.limits in
    let size = ap length c.characters-count.ensures.value in
    run_order c.requires.0 c.args.sequence.now.elements c.requires.1 run.id run.parent run.characters c.requires.3 c.requires.0 c.insert-first.result c.insert-last.result
    (length c.characters-count.result.now) c.touched_by_operation-low.result.low c.touched_by_operation-low.result.high c.touched_by_operation-high.result.low c.touched_by_operation-high.result.high
    (omega (arith, limits.some, size)) size c.insert-first.ensures c.insert-last.ensures (c.touched_by_operation-low.ensures.touched c.requires.0 c.requires.2) (c.touched_by_operation-high.ensures.touched c.requires.0 c.requires.2)
