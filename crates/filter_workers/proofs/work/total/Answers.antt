use Rattle.std.proofs.Common.{◌≡◌, Ok, arith}
use Rattle.filter_workers.proofs.Totals.{few_here, sum_more, sum_all}
use Rattle.filter_workers.proofs.work.total.Goals as goal

pub loop-worker-preserved : goal.loop-worker-preserved
loop-worker-preserved g c =
    let ok : c.worker-item.result.ended ≡ Ok c.in_ok-sum.field-0 = c.in_ok-sum.was in
    let few = few_here (λ w. w.ended) c.args.workers.now c.loop-worker.worker-index c.worker-item.result c.in_ok-sum.field-0 4294967296 c.loop-worker-test.true c.worker-item.is ok c.requires.1 in
    let so_far = c.loop-worker.invariant.1 in (
      sum_more (λ w. w.ended) c.args.workers.now c.loop-worker.worker-index c.worker-item.result c.loop-worker.sum c.in_ok-sum.field-0 c.loop-worker-test.true c.worker-item.is ok c.loop-worker.invariant.0,
      omega (arith, few, so_far),
    )

pub returns : goal.returns
returns g c = sum_all (λ w. w.ended) c.args.workers.now c.loop-worker.worker-index c.loop-worker.sum c.loop-worker-test.false c.loop-worker.invariant.0
