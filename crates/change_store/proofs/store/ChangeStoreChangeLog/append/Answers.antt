use Rattle.change_store.proofs.store.ChangeStoreChangeLog.append.Goals as goal

pub returns-then-holds-clause-ok : goal.returns-then-holds-clause-ok
returns-then-holds-clause-ok g c = c.in-Ok.ensures.kept

pub returns-in-Err-clause-memory : goal.returns-in-Err-clause-memory
returns-in-Err-clause-memory g c before kept _ = c.in-Err.ensures.none before kept
