use Rattle.core_history.specs.declared.entry.Call.TheVariants as call
use Rattle.core_history.proofs.recorded_core.RecordedCore.subscribe.Given as goal

abbrev pub ghosts-subscribe_as : goal.ghosts-subscribe_as
ghosts-subscribe_as g a = record { call = call.Subscribe a.program a.sink }
