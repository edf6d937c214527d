use Rattle.std.proofs.Common.{◌≡◌, ℕ, ◌<◌, ◌≤◌, Some}
use Rattle.std.specs.Prelude.{slice_get}
use Rattle.feeds.specs.Feed.{Subscriber}
use Rattle.hub_core.specs.Counting.{lag_of, greatest_lag}
use Rattle.hub_core.proofs.counts.greatest_lag.Given as goal

abbrev pub invariant-loop-id : goal.invariant-loop-id
invariant-loop-id g l = record {
  below : l.greatest ≤ greatest_lag l.fn.latest l.fn.subscribers;
  each : (k id : ℕ) (a : Subscriber g.row.S.Denot) → k < l.id-index → slice_get l.ids k ≡ Some id → slice_get l.subscribers id ≡ Some a → lag_of l.fn.latest a ≤ l.greatest;
}
