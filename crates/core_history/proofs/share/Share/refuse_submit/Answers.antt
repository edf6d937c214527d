use Rattle.std.proofs.Common.{◌≡◌, Err, refl, subst}
use Rattle.subscriber_queues.specs.Queue.{QueueSink, was_sent, IsFull, closed_end, unsent}
use Rattle.call_history.specs.Calls.{Holds, own_count}
use Rattle.core_history.specs.Runs.{CoreEntry, IsLegal}
use Rattle.core_history.specs.Shares.{is_accepted}
use Rattle.core_history.proofs.Counting.{counts_same, refused_same}
use Rattle.core_history.proofs.share.Share.refuse_submit.Goals as goal

pub invariant_of-self : goal.invariant_of-self
invariant_of-self g c =
    counts_same (IsLegal g.N.Naming.size was_sent IsFull closed_end unsent) _ _ _ _ c.self.invariant c.refuse_submit.ensures.extends refl

pub returns-clause-count : goal.returns-clause-count
returns-clause-count g c =
    subst (λ (v : Holds (CoreEntry QueueSink)). own_count is_accepted c.refuse_submit.new.me ≡ own_count is_accepted v) c.self.view_is
    (refused_same (IsLegal g.N.Naming.size was_sent IsFull closed_end unsent) _ _ _ _ (Err c.refuse_submit.result) c.self.invariant c.refuse_submit.ensures.extends)
