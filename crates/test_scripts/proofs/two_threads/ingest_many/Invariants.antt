use Rattle.std.proofs.Common.{◌≡◌}
use Rattle.test_scripts.proofs.two_threads.ingest_many.Given as goal

abbrev pub invariant-loop-counter : goal.invariant-loop-counter
invariant-loop-counter g l = l.share.parts ≡ l.fn.share.parts
