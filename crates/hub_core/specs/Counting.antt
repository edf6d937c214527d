-- How much there is of a hub.
use Rattle.std.specs.Prelude.{◌≡◌, ℕ, ◌+◌, ◌-◌, ◌≤◌, max, if◌then◌else◌, List, [], ◌∷◌, length, count_by}
use Rattle.change_ops.specs.Operations.{is_insert, is_mark}
use Rattle.change_ops.specs.declared.size.Size.{Size}
use Rattle.change_ops.specs.Sizes.{most_characters, most_marks, most_changes, most_subscribers, most_open}
use Rattle.change_history.specs.Accepted.{operations_of}
use Rattle.feeds.specs.Feed.{Subscriber}
use Rattle.hub_core.specs.Machine.{Core, is_open}
use Rattle.hub_core.specs.declared.counts.Counts.{Counts}

-- how many versions, the latest of which has this number, an open subscriber was not sent whole, those before its first
-- one not counted; 0 of a closed one
abbrev pub lag_of : {S : Type 0} → ℕ → Subscriber S → ℕ
lag_of latest a = if a.closed then 0 else latest + 1 - a.cursor

-- that of the slowest, 0 where there is none
unfoldable pub greatest_lag : {S : Type 0} → ℕ → List (Subscriber S) → ℕ
greatest_lag latest [] = 0
greatest_lag latest (a ∷ more) = max (lag_of latest a) (greatest_lag latest more)

-- the counts are those of this state
pub record AreCounts {S : Type 0} (s : Core S) (counts : Counts) : Type 0 where
  pub changes : counts.changes ≡ length s.changes
  pub inserted : counts.inserted ≡ count_by is_insert (operations_of s.changes)
  pub marks : counts.marks ≡ count_by is_mark (operations_of s.changes)
  pub subscribers : counts.subscribers ≡ count_by is_open s.subscribers
  pub subscribed : counts.subscribed ≡ length s.subscribers
  pub lag : counts.lag ≡ greatest_lag (length s.changes) s.subscribers

-- none is above its limit
pub record AreWithinLimits (size : Size) (counts : Counts) : Type 0 where
  pub changes : counts.changes ≤ most_changes size
  pub inserted : counts.inserted ≤ most_characters size
  pub marks : counts.marks ≤ most_marks size
  pub subscribers : counts.subscribers ≤ most_open size
  pub subscribed : counts.subscribed ≤ most_subscribers size
