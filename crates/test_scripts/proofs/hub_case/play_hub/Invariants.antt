use Rattle.change_ops.specs.declared.size.Size.TheVariants.{Small}
use Rattle.test_scripts.proofs.hub_case.play_hub.Given as goal

abbrev pub ghosts-on_lists-N-Naming : goal.ghosts-on_lists-N-Naming
ghosts-on_lists-N-Naming g a = record { size = Small; versions = a.versions.now; programs = a.programs.now }

abbrev pub ghosts-on_lists-N-Ledger : goal.ghosts-on_lists-N-Ledger
ghosts-on_lists-N-Ledger g a = record { name = a.start.name; parts = a.start.parts }

abbrev pub ghosts-on_lists-N-HistoryNaming : goal.ghosts-on_lists-N-HistoryNaming
ghosts-on_lists-N-HistoryNaming g a = record { table = a.start.table }
