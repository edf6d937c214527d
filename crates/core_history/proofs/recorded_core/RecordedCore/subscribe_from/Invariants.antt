use Rattle.core_history.specs.declared.entry.Call.TheVariants as call
use Rattle.core_history.proofs.recorded_core.RecordedCore.subscribe_from.Given as goal

abbrev pub ghosts-subscribe_from_as : goal.ghosts-subscribe_from_as
ghosts-subscribe_from_as g a = record { call = call.SubscribeFrom a.program a.sink a.first }
