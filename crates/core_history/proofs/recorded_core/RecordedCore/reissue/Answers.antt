use Rattle.std.proofs.Common.{refl}
use Rattle.hub_core.specs.declared.run.Reply.TheVariants as reply
use Rattle.core_history.specs.declared.entry.Call.TheVariants as call
use Rattle.core_history.proofs.recorded_core.RecordedCore.reissue.Goals as goal

pub record-requires-clause-led : goal.record-requires-clause-led
record-requires-clause-led g c =
    (_, call.Reissue c.args.id, reply.Reissued c.reissue-reissued.result, refl, c.self.invariant, c.reissue-reissued.ensures)
