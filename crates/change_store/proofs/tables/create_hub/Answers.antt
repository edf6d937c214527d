use Rattle.change_store.proofs.MakingLemmas.{makes_hub}
use Rattle.change_store.proofs.tables.create_hub.Goals as goal

pub returns-clause-made : goal.returns-clause-made
returns-clause-made g c clean inside before = makes_hub _ _ _ before (c.in_ok-execute.ensures.runs clean inside).0
