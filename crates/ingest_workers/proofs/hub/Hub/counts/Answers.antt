use Rattle.ingest_workers.proofs.hub.Hub.counts.Goals as goal

pub returns-clause-counts : goal.returns-clause-counts
returns-clause-counts g c = (c.look.result.now.core, c.look.ensures, (c.counts.ensures.latest, c.counts.ensures.counts))
