use Rattle.change_store.proofs.store.ChangeStoreChangeLog.all.Goals as goal

pub returns-in-Ok-clause-all : goal.returns-in-Ok-clause-all
returns-in-Ok-clause-all g c before kept = c.in-Ok.ensures.kept c.args.self.now.count before kept

pub returns-in-Ok-clause-same : goal.returns-in-Ok-clause-same
returns-in-Ok-clause-same g c before kept = c.in-Ok.ensures.still c.args.self.now.count before kept
