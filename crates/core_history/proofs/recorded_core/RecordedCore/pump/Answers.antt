use Rattle.std.proofs.Common.{refl}
use Rattle.hub_core.specs.declared.run.Reply.TheVariants as reply
use Rattle.core_history.specs.declared.entry.Call.TheVariants as call
use Rattle.core_history.proofs.recorded_core.RecordedCore.pump.Goals as goal

pub record-requires-clause-led : goal.record-requires-clause-led
record-requires-clause-led g c =
    (_, call.Pump c.args.id, reply.Pumped c.pump-pumped.result, refl, c.self.invariant, c.pump-pumped.ensures)
