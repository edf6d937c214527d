use Rattle.ingest_workers.proofs.hub.Hub.lacks_version.Goals as goal

pub returns : goal.returns
returns g c = (c.look.result.now.core, c.look.ensures, c.lacks_version.ensures.lacks)
