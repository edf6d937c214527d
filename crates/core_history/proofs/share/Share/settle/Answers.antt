use Rattle.std.proofs.Common.{◌∙◌, ap, subst}
use Rattle.subscriber_queues.specs.Queue.{QueueSink, was_sent, IsFull, closed_end, unsent}
use Rattle.call_history.specs.Calls.{Holds, IsWhole, own_count}
use Rattle.core_history.specs.Runs.{CoreEntry, IsLegal}
use Rattle.core_history.specs.Shares.{is_accepted}
use Rattle.core_history.proofs.Counting.{all_counted}
use Rattle.core_history.proofs.share.Share.settle.Goals as goal

pub returns-clause-whole : goal.returns-clause-whole
returns-clause-whole g c =
    subst (λ (v : Holds (CoreEntry QueueSink)). IsWhole (IsLegal g.N.Naming.size was_sent IsFull closed_end unsent) c.args.core.now.history v) c.self.view_is c.settle.ensures.whole

pub returns-clause-own : goal.returns-clause-own
returns-clause-own g c = c.self.invariant.accepted ∙ ap (own_count is_accepted) c.self.view_is

pub returns-clause-count : goal.returns-clause-count
returns-clause-count g c =
    all_counted g.N.Naming.size was_sent IsFull closed_end unsent _ _ _ _ _ c.self.invariant c.settle.ensures.whole c.settle.ensures.run
