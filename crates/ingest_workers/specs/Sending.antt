-- What a share sends to a subscriber that it added.
use Rattle.std.specs.Prelude.{◌≡◌, ℕ, true, Option, None, Some, Result, Ok, slice_get}
use Rattle.change_ops.specs.declared.size.Size.{Size}
use Rattle.semantics.specs.Step.{Program}
use Rattle.version_history.specs.Tokens.{Token}
use Rattle.feeds.specs.Feed.{Subscriber}
use Rattle.hub_core.specs.Machine.{Core, IsOpen, HasNone}
use Rattle.hub_core.specs.declared.error.NoSubscriber.{NoSubscriber}
use Rattle.hub_core.specs.declared.run.Reply.TheVariants as reply
use Rattle.subscriber_queues.specs.Queue.{QueueSink, Subscription, Meets}
use Rattle.call_history.specs.Calls.{Has}
use Rattle.core_history.specs.declared.entry.Call.TheVariants as call
use Rattle.core_history.specs.Runs.{called}
use Rattle.core_history.specs.Hubs.{Seen, IsHubRun}
use Rattle.ingest_workers.specs.Calls.{IsCall, subscribing}

-- the subscriber with this id was added by a call of the share's own: that with this program and the hub's end of this
-- queue, which was open
pub record IsOwnSubscriber (v : Seen) (id : ℕ) (end : Subscription) : Type 0 where
  pub place : ℕ
  pub own : Has v.own place
  pub first : Option ℕ
  pub program : Token Program
  pub sink : QueueSink
  pub entry : slice_get v.seen place ≡ Some (called (subscribing first program sink) (reply.Subscribed (Ok id)))
  pub sends : sink.sends ≡ true
  pub line : sink.line ≡ end.line
  pub promise : sink.promise ≡ end.promise

-- the two ends of an open subscriber's queue met, and this is the first version that it wasn't sent whole; or no open
-- one has this id, and nothing was done
abbrev pub IsMeeting : Core QueueSink → ℕ → Subscription → Option ℕ → Subscription → Type 0
IsMeeting s id end None met = HasNone s id × (met ≡ end)
IsMeeting s id end (Some cursor) met =
    (a : Subscriber QueueSink) × IsOpen s id a × (cursor ≡ a.cursor) × Meets a.sink end met

-- what can be sent to a subscriber was sent, by one call; and in the state that it left, the ends of the queue met
pub record Sends (size : Size) (v : Seen) (id : ℕ) (end : Subscription) (cursor : Option ℕ) (met : Subscription)
    (w : Seen) : Type 0
  where
    pub sent : Result ℕ NoSubscriber
    pub made : IsCall size v (call.Pump id) (reply.Pumped sent) w
    pub run : IsHubRun size made.new.history made.new.core
    pub meets : IsMeeting made.new.core id end cursor met
