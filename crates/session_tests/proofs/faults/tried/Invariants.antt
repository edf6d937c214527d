use Rattle.change_ops.specs.declared.size.Size.TheVariants.{Small}
use Rattle.session_tests.proofs.faults.tried.Given as goal

abbrev pub ghosts-tried_on-N-Naming : goal.ghosts-tried_on-N-Naming
ghosts-tried_on-N-Naming g a = record { size = Small; versions = a.versions.now; programs = a.programs.now }

abbrev pub ghosts-tried_on-N-Ledger : goal.ghosts-tried_on-N-Ledger
ghosts-tried_on-N-Ledger g a = record { name = a.start.name; parts = a.start.parts }

abbrev pub ghosts-tried_on-N-HistoryNaming : goal.ghosts-tried_on-N-HistoryNaming
ghosts-tried_on-N-HistoryNaming g a = record { table = a.start.table }
