use Rattle.std.proofs.Common.{length, subst, arith}
use Rattle.change_ops.specs.IdRuns.{removals_of}
use Rattle.change_ops.proofs.IdRunOps.{removals_count}
use Rattle.version_windows.proofs.Hulls.{hull_more, hull_all}
use Rattle.version_windows.specs.Walked.{CoversIds}
use Rattle.version_windows.proofs.Walking.{walked_removals}
use Rattle.version_windows.proofs.touched.touched_by_removals.Goals as goal

pub loop-index-preserved : goal.loop-index-preserved
loop-index-preserved c =
    let told = c.touched_by_operation.ensures in
    let hull = c.hull-all.ensures in
    hull_more c.args.sequence.now (removals_of c.args.run) c.loop-index.index c.loop-index.all c.touched_by_operation.result c.hull-all.result c.removal-in-loop-index.result
    c.loop-index.invariant c.removal-in-loop-index.ensures told.touched told.order told.within hull.low hull.high

pub returns-clause-touched : goal.returns-clause-touched
returns-clause-touched c =
    let run = c.args.run in
    let many = removals_count run.count run.id run.first in
    let count = c.count-count.ensures.value in
    let all = c.loop-index-test.false in
    hull_all c.args.sequence.now (removals_of run) c.loop-index.index c.loop-index.all (omega (arith, many, count, all)) c.loop-index.invariant

pub returns-then-pays_to_walk-clause-touched : goal.returns-then-pays_to_walk-clause-touched
returns-then-pays_to_walk-clause-touched c =
    let run = c.args.run in
    let es = c.args.sequence.now.elements in
    let range = c.places_of_ids.result in
    walked_removals c.args.sequence.now run range c.requires.0 c.requires.1 c.requires.3
    (subst (λ n. CoversIds es run.first n (length es) range) c.count-count.ensures.value
    (subst (λ first. CoversIds es first c.count-count.result (length es) range) c.first.ensures c.places_of_ids.ensures.covered))
