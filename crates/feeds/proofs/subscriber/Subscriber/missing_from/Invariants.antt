use Rattle.std.proofs.Common.{ℕ, ◌<◌}
use Rattle.feeds.specs.Feed.{IsDue}
use Rattle.feeds.proofs.subscriber.Subscriber.missing_from.Given as goal

abbrev pub invariant-loop-number : goal.invariant-loop-number
invariant-loop-number g l = (m : ℕ) → m < l.number → IsDue l.latest (record l.self { handed = l.handed }) m → ⊥
