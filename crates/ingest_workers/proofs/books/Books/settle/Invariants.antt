use Rattle.std.proofs.Common.{◌≡◌, vec_len}
use Rattle.ingest_workers.proofs.Settling.{Gathers}
use Rattle.ingest_workers.proofs.books.Books.settle.Given as goal

abbrev pub invariant-loop-share : goal.invariant-loop-share
invariant-loop-share g l = record {
  same : l.recorded ≡ l.initial.recorded;
  gathers : Gathers l.initial.recorded.history l.fn.shares.items l.shares.items l.house;
}

abbrev pub decreases-loop-share : goal.decreases-loop-share
decreases-loop-share g l = vec_len l.shares
