use Rattle.std.proofs.Common.{◌≡◌, ◌≤◌, List}
use Rattle.core_history.specs.Hubs.{HubEntry}
use Rattle.ingest_workers.specs.Calls.{Makes}
use Rattle.filter_workers.specs.Turns.{committed_count}
use Rattle.filter_workers.proofs.Worked.{AreFull}
use Rattle.filter_workers.proofs.work.work_alone.Given as goal

abbrev pub invariant-loop-turn : goal.invariant-loop-turn
invariant-loop-turn g l =
    (calls : List HubEntry) × Makes g.N.Naming.size l.fn.share calls l.share × AreFull l._turn calls
    × (l.committed ≡ committed_count calls)
    × (l.committed ≤ l._turn)
