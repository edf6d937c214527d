use Rattle.core_history.specs.declared.entry.Call.TheVariants as call
use Rattle.core_history.proofs.recorded_core.RecordedCore.commit.Given as goal

abbrev pub ghosts-commit_as : goal.ghosts-commit_as
ghosts-commit_as g a = record { call = call.Commit a.batch }
