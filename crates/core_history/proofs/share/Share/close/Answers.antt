use Rattle.std.proofs.Common.{refl}
use Rattle.subscriber_queues.specs.Queue.{was_sent, IsFull, closed_end, unsent}
use Rattle.core_history.specs.Runs.{IsLegal}
use Rattle.core_history.proofs.Counting.{counts_same}
use Rattle.core_history.proofs.share.Share.close.Goals as goal

pub invariant_of-self : goal.invariant_of-self
invariant_of-self g c =
    counts_same (IsLegal g.N.Naming.size was_sent IsFull closed_end unsent) _ _ _ _ c.self.invariant c.close.ensures.extends refl
