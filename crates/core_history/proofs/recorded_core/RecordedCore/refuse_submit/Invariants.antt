use Rattle.std.proofs.Common.{Some, Err}
use Rattle.hub_core.specs.declared.run.Reply.TheVariants as reply
use Rattle.core_history.specs.declared.entry.Call.TheVariants as call
use Rattle.core_history.specs.Runs.{called}
use Rattle.core_history.proofs.recorded_core.RecordedCore.refuse_submit.Given as goal

abbrev pub ghosts-record : goal.ghosts-record
ghosts-record g a = record { entry = Some (called (call.Submit a.about.now.0.now) (reply.Submitted (Err a.about.now.1))) }
