use Rattle.std.proofs.Common.{arith}
use Rattle.format_runs.proofs.Slices.{over_run}
use Rattle.format_runs.proofs.runs.run_over.Goals as goal

pub returns-then-count-end-clause-shown : goal.returns-then-count-end-clause-shown
returns-then-count-end-clause-shown c =
    over_run c.args.runs.now c.loop-run.run-index c.run-item.result c.args.place c.args.count c.loop-run-test.true c.run-item.is
    (omega (arith, c.loop-run.invariant.counted, c.loop-run.invariant.before))
    (omega (arith, c.loop-run.invariant.counted, c.characters.ensures, c.if-place-end.true, c.if-count-end.true))
