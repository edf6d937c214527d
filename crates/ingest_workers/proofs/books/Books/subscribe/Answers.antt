use Rattle.std.proofs.Common.{length, refl, subst, sym}
use Rattle.feeds.specs.Promise.{Suits}
use Rattle.subscriber_queues.specs.Queue.{QueueSink}
use Rattle.core_history.specs.Runs.{Recorded}
use Rattle.ingest_workers.proofs.House.{kept, made_seen}
use Rattle.ingest_workers.proofs.books.Books.subscribe.Goals as goal

pub subscribe-id-requires-clause-suits : goal.subscribe-id-requires-clause-suits
subscribe-id-requires-clause-suits g c =
    subst (λ (s : Recorded QueueSink). Suits c.args.sink.promise g.N.Naming.size c.args.program.value (length s.core.changes)) (sym c.self.view_is) c.requires.suits

pub invariant_of-self : goal.invariant_of-self
invariant_of-self g c =
    kept _ g.N.Naming.size _ _ _ _ _ _ _ _ _ _ c.subscribe-id.ensures refl c.self.invariant c.core-2.ensures.core c.stays_consistent.ensures.consistent c.stays_consistent.ensures.size

pub returns-clause-call : goal.returns-clause-call
returns-clause-call g c =
    made_seen g.N.Naming.size _ _ _ _ _ _ _ c.core.ensures.run c.subscribe-id.ensures c.self.invariant.4 c.self.invariant.7 c.core-2.ensures.core c.stays_consistent.ensures.consistent c.stays_consistent.ensures.size
