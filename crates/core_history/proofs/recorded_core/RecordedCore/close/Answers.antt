use Rattle.std.proofs.Common.{refl}
use Rattle.hub_core.specs.declared.run.Reply.TheVariants as reply
use Rattle.core_history.specs.declared.entry.Call.TheVariants as call
use Rattle.core_history.proofs.recorded_core.RecordedCore.close.Goals as goal

pub record-requires-clause-led : goal.record-requires-clause-led
record-requires-clause-led g c =
    (_, call.Close c.args.id, reply.Closed c.close-closed.result, refl, c.self.invariant, c.close-closed.ensures)
