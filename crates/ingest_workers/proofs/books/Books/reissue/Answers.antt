use Rattle.std.proofs.Common.{refl}
use Rattle.ingest_workers.proofs.House.{kept, made_seen}
use Rattle.ingest_workers.proofs.books.Books.reissue.Goals as goal

pub invariant_of-self : goal.invariant_of-self
invariant_of-self g c =
    kept _ g.N.Naming.size _ _ _ _ _ _ _ _ _ _ c.reissue-found.ensures refl c.self.invariant c.core-2.ensures.core c.stays_consistent.ensures.consistent c.stays_consistent.ensures.size

pub returns-clause-call : goal.returns-clause-call
returns-clause-call g c =
    made_seen g.N.Naming.size _ _ _ _ _ _ _ c.core.ensures.run c.reissue-found.ensures c.self.invariant.4 c.self.invariant.7 c.core-2.ensures.core c.stays_consistent.ensures.consistent c.stays_consistent.ensures.size
