use Rattle.std.proofs.Common.{◌≡◌, ◌≤◌, ◌-◌, ◌++◌, length, take, drop}
use Rattle.feeds.proofs.subscriber.send_batch.Given as goal

abbrev pub invariant-sending : goal.invariant-sending
invariant-sending g l = record {
  low : l.from ≤ l.at;
  high : l.at ≤ length l.items;
  kept : g.S.Sink.promise l.sink ≡ g.S.Sink.promise l.initial.sink;
  bare : g.S.Sink.bare l.sink ≡ g.S.Sink.bare l.initial.sink;
  sent : g.S.Sink.sent l.sink ≡ g.S.Sink.sent l.initial.sink ++ take (l.at - l.from) (drop l.from l.items);
}

abbrev pub decreases-sending : goal.decreases-sending
decreases-sending g l = length l.items - l.at
