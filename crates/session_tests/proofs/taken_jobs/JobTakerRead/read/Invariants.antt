use Rattle.std.proofs.Common.{◌≡◌}
use Rattle.session_tests.proofs.taken_jobs.JobTakerRead.read.Given as goal

abbrev pub invariant-loop-target : goal.invariant-loop-target
invariant-loop-target g l = l.given ≡ l.target-index
