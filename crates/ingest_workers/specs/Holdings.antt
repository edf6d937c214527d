-- What a submission answers, and how a hub ends.
use Rattle.std.specs.Prelude.{◌≡◌, ℕ, ◌+◌, ◌<◌, Result, Ok, Err, List, [], length, sum, map, Contains}
use mathlib.Core.List.{IsPrefix}
use Rattle.change_ops.specs.Changes.{Change}
use Rattle.change_ops.specs.declared.size.Size.{Size}
use Rattle.span_flatten.specs.Version.{Version}
use Rattle.version_history.specs.Tokens.{Token}
use Rattle.change_history.specs.declared.refusal.SubmitError.{SubmitError}
use Rattle.hub_core.specs.declared.run.Reply.TheVariants as reply
use Rattle.core_history.specs.declared.entry.Call.TheVariants as call
use Rattle.subscriber_queues.specs.Queue.{QueueSink}
use Rattle.call_history.specs.Calls.{Has, IsWhole}
use Rattle.core_history.specs.Runs.{Recorded}
use Rattle.core_history.specs.Shares.{accepted_count}
use Rattle.core_history.specs.Hubs.{Seen, IsHubRun, IsHubLegal}
use Rattle.ingest_workers.specs.Calls.{IsCall}

-- a share that has made no call
pub record IsIdle (size : Size) (w : Seen) : Type 0 where
  pub own : w.own ≡ []
  pub parts : w.parts ≡ 1
  pub legal : IsHubLegal size w.seen

-- a change is submitted, as a call of the share, and the number of its version answered; or it is refused, which is a
-- call too
abbrev pub Ingests : Size → Seen → Change → Result ℕ SubmitError → Seen → Type 0
Ingests size v change (Ok number) w =
    (token : Token Version) × (token.value.number ≡ number)
    × IsCall size v (call.Submit change) (reply.Submitted (Ok token)) w
Ingests size v change (Err e) w = IsCall size v (call.Submit change) (reply.Submitted (Err e)) w

-- the hub came to its end, and these shares are all that there were: the history is a run of its core; each of its
-- entries but the first, which is the start, is an own call of one of them, and of one alone, since they have no more
-- own calls than that together; and so many changes were accepted, each of them a call of one of the shares
pub record Settles (size : Size) (found : Recorded QueueSink) (shares : List Seen) (count : ℕ) : Type 0 where
  pub run : IsHubRun size found.history found.core
  pub changes : count ≡ length found.core.changes
  pub accepted : count ≡ sum (map accepted_count shares)
  pub seen : (share : Seen) → Contains shares share → IsPrefix share.seen found.history
  pub all : Seen
  pub whole : IsWhole (IsHubLegal size) found.history all
  pub own : (share : Seen) (k : ℕ) → Contains shares share → Has share.own k → Has all.own k
  pub of_one : (k : ℕ) → 0 < k → k < length found.history
      → (share : Seen) × Contains shares share × Has share.own k
  pub once : length found.history ≡ sum (map (λ share. length share.own) shares) + 1
