use Rattle.std.proofs.Common.{◌≤◌, ◌-◌, ◌*◌, length}
use Rattle.feeds.specs.Feed.{IsFed, Moved}
use Rattle.feeds.proofs.subscriber.Subscriber.pump.Given as goal

abbrev pub invariant-pumping : goal.invariant-pumping
invariant-pumping g l = record {
  fed : IsFed g.S.Sink.sent g.S.Sink.full l.versions l.self;
  moved : Moved g.S.Sink.sent g.S.Sink.full g.S.Sink.bare l.initial.self l.pushed l.self;
  few : l.pushed ≤ (l.self.cursor - l.initial.self.cursor) * 131073;
}

abbrev pub decreases-pumping : goal.decreases-pumping
decreases-pumping g l = length l.versions - l.self.cursor
