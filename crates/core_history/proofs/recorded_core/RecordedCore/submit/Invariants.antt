use Rattle.core_history.specs.declared.entry.Call.TheVariants as call
use Rattle.core_history.proofs.recorded_core.RecordedCore.submit.Given as goal

abbrev pub ghosts-submit_as : goal.ghosts-submit_as
ghosts-submit_as g a = record { call = call.Submit a.change }
