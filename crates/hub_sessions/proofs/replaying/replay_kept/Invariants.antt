use Rattle.change_keeping.specs.Kept.{some_log}
use Rattle.hub_sessions.proofs.replaying.replay_kept.Given as goal

abbrev pub ghosts-replay_kept_on-N-Naming : goal.ghosts-replay_kept_on-N-Naming
ghosts-replay_kept_on-N-Naming g a = record { size = a.size; versions = a.versions.now; programs = a.programs.now }

abbrev pub ghosts-replay_kept_on-N-Ledger : goal.ghosts-replay_kept_on-N-Ledger
ghosts-replay_kept_on-N-Ledger g a = record { name = a.start.name; parts = a.start.parts }

abbrev pub ghosts-replay_kept_on-N-HistoryNaming : goal.ghosts-replay_kept_on-N-HistoryNaming
ghosts-replay_kept_on-N-HistoryNaming g a = record { table = a.start.table }

abbrev pub ghosts-replay_kept_on-N-Keeping : goal.ghosts-replay_kept_on-N-Keeping
ghosts-replay_kept_on-N-Keeping g a = record { kept = some_log a.size g.L.ChangeLog.kept }
