use Rattle.hub_core.specs.declared.run.Reply.TheVariants as reply
use Rattle.subscriber_queues.specs.Queue.{was_sent, IsFull, closed_end, unsent}
use Rattle.core_history.specs.declared.entry.Call.TheVariants as call
use Rattle.core_history.proofs.Recording.{led_as}
use Rattle.core_history.proofs.recorded_core.RecordedCore.submit_as.Goals as goal

pub record-requires-clause-led : goal.record-requires-clause-led
record-requires-clause-led g c =
    led_as g.N.Naming.size was_sent IsFull closed_end unsent _ _ (call.Submit c.args.change) g.A.Asked.call (reply.Submitted c.submit_spelled-submitted.result) _
    c.requires.call c.self.invariant c.submit_spelled-submitted.ensures
