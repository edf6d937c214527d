-- What is so of a hub's core between any two calls.
use Rattle.std.specs.Prelude.{◌≡◌, ℕ, Some, List, length, map, slice_get}
use Rattle.feeds.specs.Batches.{Item}
use Rattle.feeds.specs.Feed.{Subscriber}
use Rattle.change_history.specs.Accepted.{AreAccepted}
use Rattle.feeds.specs.Stream.{BeginsStream}
use Rattle.hub_core.specs.Machine.{Core, IsSound}

-- what the core's type keeps; each change was accepted after those before it; what each subscriber's sink was sent is a
-- beginning of its program's stream
pub record IsConsistent {S : Type 0} (sent : S → List Item) (full : S → Type 0) (s : Core S) : Type 0 where
  pub sound : IsSound sent full s
  pub accepted : AreAccepted s.size s.changes
  pub streams : (id : ℕ) (a : Subscriber S) → slice_get s.subscribers id ≡ Some a
      → BeginsStream a.program.value s.changes a.first (length s.changes) (map (λ item. item.what) (sent a.sink))
