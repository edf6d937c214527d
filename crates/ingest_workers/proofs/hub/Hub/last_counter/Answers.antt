use Rattle.ingest_workers.proofs.hub.Hub.last_counter.Goals as goal

pub returns : goal.returns
returns g c = (c.look.result.now.core, c.look.ensures, c.last_counter.ensures.counter)
