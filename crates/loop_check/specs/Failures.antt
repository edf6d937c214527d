-- The errors that failures of one label are.
use Rattle.std.specs.Prelude.{ℕ}
use Rattle.tracked_state.specs.declared.stop.Stop.{Stop}
use Rattle.tracked_state.specs.declared.stop.Stop.TheVariants as stop
use Rattle.loop_check.specs.declared.refusal.LabelFault.TheVariants.{Refused}
use Rattle.loop_check.specs.declared.refusal.Failure.{Failure}
use Rattle.loop_check.specs.declared.refusal.Failure.TheVariants.{Fault, OutOfMemory}
use Rattle.loop_check.specs.declared.refusal.CheckError.{CheckError}
use Rattle.loop_check.specs.declared.refusal.CheckError.TheVariants as error

abbrev pub failure_of : Stop → Failure
failure_of (stop.Refused refusal) = Fault (Refused refusal)
failure_of stop.OutOfMemory = OutOfMemory

abbrev pub error_at : ℕ → Failure → CheckError
error_at slot (Fault fault) = error.Label slot fault
error_at slot OutOfMemory = error.OutOfMemory
