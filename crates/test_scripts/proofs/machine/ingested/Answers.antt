use Rattle.test_scripts.proofs.Parts.{ingest_keeps}
use Rattle.test_scripts.proofs.machine.ingested.Goals as goal

pub returns : goal.returns
returns g c = ingest_keeps g.N.Naming.size c.args.share.now c.args.text.now c.ingest.result c.ingest.new.share c.ingest.ensures.call
