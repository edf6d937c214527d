use Rattle.std.proofs.Common.{subst}
use Rattle.subscriber_queues.specs.Queue.{QueueSink}
use Rattle.core_history.specs.Runs.{Recorded}
use Rattle.ingest_workers.specs.Calls.{IsSight}
use Rattle.ingest_workers.proofs.House.{sighted}
use Rattle.ingest_workers.proofs.books.Books.look.Goals as goal

pub returns-clause-sight : goal.returns-clause-sight
returns-clause-sight g c =
    subst (λ (r : Recorded QueueSink). IsSight g.N.Naming.size c.args.share.now r.core c.look.new.self) c.self.view_is
    (sighted g.N.Naming.size c.self.inside.recorded c.args.share.now c.look.new.self c.look.ensures.begins c.look.ensures.run c.look.ensures.me c.self.invariant.4 c.self.invariant.7)
