use Rattle.change_store.proofs.MakingLemmas.{makes_change}
use Rattle.change_store.proofs.tables.create_change.Goals as goal

pub returns-clause-made : goal.returns-clause-made
returns-clause-made g c clean inside bare = makes_change _ _ _ bare (c.in_ok-execute.ensures.runs clean inside).0
