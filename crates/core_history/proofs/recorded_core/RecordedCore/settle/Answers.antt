use Rattle.std.proofs.Common.{inr, subst}
use Rattle.subscriber_queues.specs.Queue.{QueueSink, was_sent, IsFull, closed_end, unsent}
use Rattle.core_history.specs.Runs.{Recorded, IsLegal}
use Rattle.core_history.specs.Lawful.{IsLawful}
use Rattle.call_history.specs.Calls.{IsWhole}
use Rattle.core_history.proofs.Recording.{whole_by}
use Rattle.core_history.proofs.recorded_core.RecordedCore.settle.Goals as goal

pub returns-clause-whole : goal.returns-clause-whole
returns-clause-whole g c =
    let legal = IsLegal g.N.Naming.size was_sent IsFull closed_end unsent in
    let whole = whole_by IsLawful legal c.args.all c.args.all c.self.inside.history c.settle.ensures.whole (inr (_, c.self.invariant)) in
    subst (λ (r : Recorded QueueSink). IsWhole legal r.history c.args.all) c.self.view_is whole
