use Rattle.change_keeping.specs.Kept.{none_kept}
use Rattle.hub_doors.proofs.server.serve.Given as goal

abbrev pub ghosts-serve_on-N-Naming : goal.ghosts-serve_on-N-Naming
ghosts-serve_on-N-Naming g a = record { size = a.plan.now.terms.now.size; versions = a.versions.now; programs = a.programs.now }

abbrev pub ghosts-serve_on-N-Ledger : goal.ghosts-serve_on-N-Ledger
ghosts-serve_on-N-Ledger g a = record { name = a.start.name; parts = a.start.parts }

abbrev pub ghosts-serve_on-N-HistoryNaming : goal.ghosts-serve_on-N-HistoryNaming
ghosts-serve_on-N-HistoryNaming g a = record { table = a.start.table }

-- nothing is kept
abbrev pub ghosts-serve_on-N-Keeping : goal.ghosts-serve_on-N-Keeping
ghosts-serve_on-N-Keeping g a = record { kept = none_kept a.plan.now.terms.now.size }
