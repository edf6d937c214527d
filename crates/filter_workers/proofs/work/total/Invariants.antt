use Rattle.std.proofs.Common.{◌≤◌, ◌*◌}
use Rattle.filter_workers.proofs.Totals.{SumTo}
use Rattle.filter_workers.proofs.work.total.Given as goal

abbrev pub invariant-loop-worker : goal.invariant-loop-worker
invariant-loop-worker g l = SumTo (λ w. w.ended) l.workers l.worker-index l.sum × (l.sum ≤ l.worker-index * 4294967296)
