use Rattle.ingest_workers.proofs.hub.Hub.versions_from.Goals as goal

pub returns : goal.returns
returns g c = (c.look.result.now.core, c.look.ensures, c.versions_from.ensures.versions)
