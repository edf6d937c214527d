use Rattle.ingest_workers.proofs.hub.Hub.texts_behind.Goals as goal

pub returns : goal.returns
returns g c = (c.look.result.now.core, c.look.ensures, c.texts_behind.ensures.texts)
