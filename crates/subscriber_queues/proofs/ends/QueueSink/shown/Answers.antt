use Rattle.subscriber_queues.proofs.Moves.{shows}
use Rattle.subscriber_queues.proofs.ends.QueueSink.shown.Goals as goal

pub another-requires-clause-rule : goal.another-requires-clause-rule
another-requires-clause-rule g c = shows _ _ c.self.invariant.1
