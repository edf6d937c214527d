use Rattle.change_ops.specs.declared.size.Size.TheVariants.{Small}
use Rattle.session_tests.proofs.taken_jobs.a_pull_answers_what_is_due_though_others_took_its_jobs.Given as goal

abbrev pub ghosts-taken-N-Naming : goal.ghosts-taken-N-Naming
ghosts-taken-N-Naming g a = record { size = Small; versions = a.versions.now; programs = a.programs.now }

abbrev pub ghosts-taken-N-Ledger : goal.ghosts-taken-N-Ledger
ghosts-taken-N-Ledger g a = record { name = a.start.name; parts = a.start.parts }

abbrev pub ghosts-taken-N-HistoryNaming : goal.ghosts-taken-N-HistoryNaming
ghosts-taken-N-HistoryNaming g a = record { table = a.start.table }
