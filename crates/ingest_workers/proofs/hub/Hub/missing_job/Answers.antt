use Rattle.ingest_workers.proofs.hub.Hub.missing_job.Goals as goal

pub returns : goal.returns
returns g c = (c.look.result.now.core, c.look.ensures, c.missing_job.ensures.event)
