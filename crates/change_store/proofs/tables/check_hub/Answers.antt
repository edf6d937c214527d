use Rattle.change_store.proofs.ReadingLemmas.{asks_only}
use Rattle.change_store.proofs.tables.check_hub.Goals as goal

pub returns-then-is_id-clause-same : goal.returns-then-is_id-clause-same
returns-then-is_id-clause-same g c clean has = asks_only _ _ _ has (c.in_ok-rows.ensures.ok clean)
