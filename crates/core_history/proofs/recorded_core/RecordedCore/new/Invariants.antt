use Rattle.core_history.proofs.Starting.{first_entry}
use Rattle.core_history.proofs.recorded_core.RecordedCore.new.Given as goal

abbrev pub ghosts-append : goal.ghosts-append
ghosts-append g a = record { entry = first_entry a.about.now }
