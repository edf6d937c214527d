use Rattle.std.proofs.Common.{subst}
use Rattle.change_history.specs.Accepted.{AreAccepted}
use Rattle.stored_history.specs.Stored.{Stored}
use Rattle.stored_history.proofs.history.StoredHistory.count.Goals as goal

pub returns-clause-accepted : goal.returns-clause-accepted
returns-clause-accepted g c = subst (λ (s : Stored g.row.L.Denot). AreAccepted s.size s.changes) c.self.view_is c.len.ensures.accepted
