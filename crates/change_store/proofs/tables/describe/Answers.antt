use Rattle.change_store.proofs.MakingLemmas.{describes}
use Rattle.change_store.proofs.tables.describe.Goals as goal

pub returns-clause-kept : goal.returns-clause-kept
returns-clause-kept g c clean inside before = describes _ _ _ _ before (c.in_ok-execute.ensures.runs clean inside).0
