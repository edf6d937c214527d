use Rattle.subscriber_queues.proofs.Moves.{learns}
use Rattle.subscriber_queues.proofs.ends.Subscription.learn.Goals as goal

pub absorb-requires-clause-rule : goal.absorb-requires-clause-rule
absorb-requires-clause-rule g c = learns _ _ _ _
