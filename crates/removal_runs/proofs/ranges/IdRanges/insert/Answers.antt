use Rattle.std.proofs.lemmas.Result.{on_ok_weaker}
use Rattle.removal_runs.proofs.IdPeers.{has_one_more}
use Rattle.removal_runs.proofs.ranges.IdRanges.insert.Goals as goal

pub returns-clause-ok : goal.returns-clause-ok
returns-clause-ok c = on_ok_weaker c.add.result (has_one_more c.args.id c.args.self.now c.add.new.self) c.add.ensures.ok
