use Rattle.ingest_workers.proofs.hub.Hub.greatest_counter.Goals as goal

pub returns : goal.returns
returns g c = (c.look.result.now.core, c.look.ensures, c.greatest_counter.ensures.counter)
