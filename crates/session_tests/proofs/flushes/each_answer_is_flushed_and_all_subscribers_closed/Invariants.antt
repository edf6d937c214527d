use Rattle.change_ops.specs.declared.size.Size.TheVariants.{Small}
use Rattle.session_tests.proofs.flushes.each_answer_is_flushed_and_all_subscribers_closed.Given as goal

abbrev pub ghosts-two_subscribed-N-Naming : goal.ghosts-two_subscribed-N-Naming
ghosts-two_subscribed-N-Naming g a = record { size = Small; versions = a.versions.now; programs = a.programs.now }

abbrev pub ghosts-two_subscribed-N-Ledger : goal.ghosts-two_subscribed-N-Ledger
ghosts-two_subscribed-N-Ledger g a = record { name = a.start.name; parts = a.start.parts }

abbrev pub ghosts-two_subscribed-N-HistoryNaming : goal.ghosts-two_subscribed-N-HistoryNaming
ghosts-two_subscribed-N-HistoryNaming g a = record { table = a.start.table }
