use Rattle.std.proofs.Common.{◌≡◌, None, take, replicate}
use Rattle.feeds.proofs.subscriber.let_go.Given as goal

abbrev pub invariant-loop-entry : goal.invariant-loop-entry
invariant-loop-entry g l = take l.entry-index l.held ≡ replicate l.entry-index None
