use Rattle.std.proofs.Common.{◌≡◌, None, replicate}
use Rattle.feeds.proofs.subscriber.no_batches.Given as goal

abbrev pub invariant-loop-i : goal.invariant-loop-i
invariant-loop-i g l = l.held.items ≡ replicate l._i None
