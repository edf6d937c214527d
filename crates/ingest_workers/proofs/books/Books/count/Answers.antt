use Rattle.std.proofs.Common.{ap, ◌∙◌, subst}
use Rattle.change_history.specs.Accepted.{AreAccepted}
use Rattle.hub_core.specs.Machine.{Core}
use Rattle.subscriber_queues.specs.Queue.{QueueSink}
use Rattle.core_history.specs.Runs.{Recorded}
use Rattle.ingest_workers.proofs.books.Books.count.Goals as goal

pub returns-clause-accepted : goal.returns-clause-accepted
returns-clause-accepted g c =
    subst (λ (s : Core QueueSink). AreAccepted g.N.Naming.size s.changes) (c.core.ensures.core ∙ ap (λ (r : Recorded QueueSink). r.core) c.self.view_is) c.count.ensures.accepted
