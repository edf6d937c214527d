use Rattle.change_keeping.specs.Kept.{some_log}
use Rattle.hub_doors.proofs.server.serve_kept.Given as goal

abbrev pub ghosts-serve_kept_on-N-Naming : goal.ghosts-serve_kept_on-N-Naming
ghosts-serve_kept_on-N-Naming g a = record { size = a.plan.now.terms.now.size; versions = a.versions.now; programs = a.programs.now }

abbrev pub ghosts-serve_kept_on-N-Ledger : goal.ghosts-serve_kept_on-N-Ledger
ghosts-serve_kept_on-N-Ledger g a = record { name = a.start.name; parts = a.start.parts }

abbrev pub ghosts-serve_kept_on-N-HistoryNaming : goal.ghosts-serve_kept_on-N-HistoryNaming
ghosts-serve_kept_on-N-HistoryNaming g a = record { table = a.start.table }

-- some log keeps them
abbrev pub ghosts-serve_kept_on-N-Keeping : goal.ghosts-serve_kept_on-N-Keeping
ghosts-serve_kept_on-N-Keeping g a = record { kept = some_log a.plan.now.terms.now.size g.L.ChangeLog.kept }
