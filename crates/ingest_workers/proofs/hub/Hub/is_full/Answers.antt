use Rattle.ingest_workers.proofs.hub.Hub.is_full.Goals as goal

pub returns : goal.returns
returns g c = (c.look.result.now.core, c.look.ensures, c.is_full.ensures.full)
