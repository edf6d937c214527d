use Rattle.ingest_workers.proofs.hub.Hub.version.Goals as goal

pub returns : goal.returns
returns g c = (c.look.result.now.core, c.look.ensures, c.version.ensures.token)
