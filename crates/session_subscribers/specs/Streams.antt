-- What the pulls of one subscriber give together.
use Rattle.std.specs.Prelude.{◌≡◌, ℕ, Ok, List, [], ◌∷◌, length, map}
use mathlib.Core.List.{IsPrefix}
use Rattle.change_ops.specs.declared.size.Size.{Size}
use Rattle.semantics.specs.Step.{Program}
use Rattle.version_history.specs.Tokens.{Token}
use Rattle.feeds.specs.Batches.{Item}
use Rattle.feeds.specs.Stream.{BeginsStream}
use Rattle.stream_readers.specs.Readers.{Reader, Reads, fresh}
use Rattle.stream_readers.specs.Laws.{joined}
use Rattle.hub_core.specs.Machine.{Core}
use Rattle.hub_core.specs.declared.run.Reply.TheVariants as told
use Rattle.subscriber_queues.specs.Queue.{QueueSink}
use Rattle.core_history.specs.declared.entry.Call.TheVariants as call
use Rattle.core_history.specs.Hubs.{Seen, IsHubRun}
use Rattle.ingest_workers.specs.Calls.{IsCall, IsLook}

-- pulls of one reader, one after another, each with its look at the hub; between them the share may look and call too
abbrev pub PullsOn : Size → Seen → Reader → List (List Item) → Reader → Seen → Type 0
PullsOn size v r [] r' w = (r' ≡ r) × (w ≡ v)
PullsOn size v r (given ∷ more) r' w =
    (u : Seen) × (t : Seen) × (mid : Reader) × IsPrefix v.seen u.seen
    × IsLook size u (λ s. Reads s.versions r given mid) t
    × PullsOn size t mid more r' w

-- a program was subscribed from a version on, and then pulled so often: all that the pulls gave, one after another,
-- begins the program's stream over the changes that the hub had accepted at the last look, from that version on
abbrev pub PullsBeginTheStream : Type 0
PullsBeginTheStream =
    (size : Size) (u v w : Seen) (program : Token Program) (sink : QueueSink) (first id : ℕ) (given : List (List Item))
    (r : Reader) → IsCall size u (call.SubscribeFrom program sink first) (told.Subscribed (Ok id)) v
    → PullsOn size v (fresh program first) given r w
    → (s : Core QueueSink) × IsHubRun size w.seen s
    × BeginsStream program.value s.changes first (length s.changes) (map (λ item. item.what) (joined given))
