use Rattle.std.proofs.Common.{Some}
use Rattle.hub_core.specs.declared.run.Reply.TheVariants as reply
use Rattle.core_history.specs.Runs.{called}
use Rattle.core_history.proofs.recorded_core.RecordedCore.subscribe_from_as.Given as goal

abbrev pub ghosts-record : goal.ghosts-record
ghosts-record g a = record { entry = Some (called g.A.Asked.call (reply.Subscribed a.about.now)) }
