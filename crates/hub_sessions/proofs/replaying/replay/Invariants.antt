use Rattle.hub_sessions.proofs.replaying.replay.Given as goal

abbrev pub ghosts-replay_on-N-Naming : goal.ghosts-replay_on-N-Naming
ghosts-replay_on-N-Naming g a = record { size = a.size; versions = a.versions.now; programs = a.programs.now }

abbrev pub ghosts-replay_on-N-Ledger : goal.ghosts-replay_on-N-Ledger
ghosts-replay_on-N-Ledger g a = record { name = a.start.name; parts = a.start.parts }

abbrev pub ghosts-replay_on-N-HistoryNaming : goal.ghosts-replay_on-N-HistoryNaming
ghosts-replay_on-N-HistoryNaming g a = record { table = a.start.table }
