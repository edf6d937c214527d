-- How much there is of a hub, and how much it still takes.
use Rattle.std.specs.Prelude.{◌≡◌, ℕ, ◌*◌, ◌/◌, ◌-◌, min, max, Option, None, Some, length, chars, slice_get}
use Rattle.change_ops.specs.declared.size.Size.{Size}
use Rattle.change_ops.specs.Sizes.{most_characters, most_bytes, most_marks, most_changes, most_subscribers, most_open}
use Rattle.span_flatten.specs.Version.{Version}
use Rattle.version_history.specs.Tokens.{Token}
use Rattle.hub_core.specs.Machine.{Core}
use Rattle.hub_core.specs.Counting.{AreCounts}
use Rattle.hub_core.specs.declared.counts.Counts.{Counts}
use Rattle.subscriber_queues.specs.Queue.{QueueSink}
use Rattle.session_lines.specs.declared.stats.Limits.{Limits}
use Rattle.session_lines.specs.declared.stats.Memory.{Memory}
use Rattle.session_lines.specs.declared.stats.PerLimit.{PerLimit}
use Rattle.session_lines.specs.declared.stats.Stats.{Stats}

-- how many characters more can be inserted where the visible ones take so many bytes: one has a byte or more
abbrev pub characters_left : Size → Counts → ℕ → ℕ
characters_left size counts bytes = min (most_characters size - counts.inserted) (most_bytes - bytes)

-- what is left of each limit, where the visible text has so many bytes; of the two of subscribers the less
abbrev pub left_of : Size → Counts → ℕ → PerLimit
left_of size counts bytes =
    record {
      changes = most_changes size - counts.changes;
      characters = characters_left size counts bytes;
      marks = most_marks size - counts.marks;
      subscribers = min (most_subscribers size - counts.subscribed) (most_open size - counts.subscribers);
    }

-- the latest version of a hub
abbrev pub IsLatest : Core QueueSink → Token Version → Type 0
IsLatest s latest = slice_get s.versions (length s.changes) ≡ Some latest

-- this much is left of a hub of this size
pub record IsLeft (size : Size) (s : Core QueueSink) (left : PerLimit) : Type 0 where
  pub counts : Counts
  pub counted : AreCounts s counts
  pub latest : Token Version
  pub newest : IsLatest s latest
  pub told : left ≡ left_of size counts (length latest.value.text)

-- how much of a limit is used, in parts of a thousand; of the two of characters, and of subscribers, the more
abbrev pub used_of : ℕ → ℕ → ℕ
used_of count limit = count * 1000 / limit

abbrev pub used_by : Size → Counts → ℕ → PerLimit
used_by size counts bytes =
    record {
      changes = used_of counts.changes (most_changes size);
      characters = max (used_of counts.inserted (most_characters size)) (used_of bytes most_bytes);
      marks = used_of counts.marks (most_marks size);
      subscribers = max (used_of counts.subscribed (most_subscribers size))
          (used_of counts.subscribers (most_open size));
    }

-- the limits of a hub of this size
abbrev pub limits_of : Size → Limits
limits_of size =
    record {
      changes = most_changes size;
      characters = most_characters size;
      bytes = most_bytes;
      marks = most_marks size;
      subscribers = most_subscribers size;
      open_subscribers = most_open size;
    }

-- what is told of so much, where this is the latest version, there are so many sessions, and the slowest of their
-- subscribers is so many versions behind; a character that was inserted and isn't visible was removed
abbrev pub stats_of : Size → Counts → Version → ℕ → ℕ → Option Memory → Stats
stats_of size counts latest sessions lag memory =
    record {
      versions = counts.changes;
      characters = length (chars latest.text);
      removed = counts.inserted - length (chars latest.text);
      marks = counts.marks;
      subscribers = counts.subscribers;
      subscribed = counts.subscribed;
      sessions = sessions;
      bytes = length latest.text;
      lag = lag;
      used = used_by size counts (length latest.text);
      limits = limits_of size;
      memory = memory;
    }

-- the limit of the memory that is told
abbrev pub told_limit : Option Memory → Option ℕ
told_limit None = None
told_limit (Some memory) = Some memory.limit

-- these are those of a hub of this size, whose document has this limit of memory, but for the number of its sessions,
-- how far their subscribers are behind and the memory that is used, of which nothing is said
pub record AreStats (size : Size) (limit : Option ℕ) (s : Core QueueSink) (stats : Stats) : Type 0 where
  pub counts : Counts
  pub counted : AreCounts s counts
  pub latest : Token Version
  pub newest : IsLatest s latest
  pub told : stats ≡ stats_of size counts latest.value stats.sessions stats.lag stats.memory
  pub limited : told_limit stats.memory ≡ limit
