-- What a share saw of a hub's one history, and which calls it made, between two moments.
use Rattle.std.specs.Prelude.{◌≡◌, ⊤, ℕ, suc, ◌≤◌, Option, None, Some, List, [], ◌∷◌, ◌++◌, length, map, slice_get}
use mathlib.Core.List.{IsPrefix}
use Rattle.change_ops.specs.declared.size.Size.{Size}
use Rattle.semantics.specs.Step.{Program}
use Rattle.version_history.specs.Tokens.{Token}
use Rattle.hub_core.specs.Machine.{Core}
use Rattle.hub_core.specs.Consistent.{IsConsistent}
use Rattle.subscriber_queues.specs.Queue.{QueueSink, was_sent, IsFull}
use Rattle.call_history.specs.Calls.{Looks}
use Rattle.core_history.specs.declared.entry.Call.TheVariants as call
use Rattle.core_history.specs.Runs.{CoreReply, Recorded}
use Rattle.core_history.specs.Hubs.{HubEntry, HubCall, Seen, IsHubRun, IsHubLegal, HubRecords}

-- a consistent state of a hub of this size
pub record IsStateOf (size : Size) (s : Core QueueSink) : Type 0 where
  pub of : s.size ≡ size
  pub consistent : IsConsistent was_sent IsFull s

-- the states before a call and after it are consistent, and of a hub of this size
abbrev pub AreConsistent : Size → Core QueueSink → Core QueueSink → Type 0
AreConsistent size old new = IsStateOf size old × IsStateOf size new

-- the hub was called once, in one holding of the lock: the history so far had led to the core that was found there; the
-- core did what the call says; and its entry, which is the last of the history now, is one more of the caller's own
pub record IsCall (size : Size) (v : Seen) (c : HubCall) (r : CoreReply) (w : Seen) : Type 0 where
  pub old : Recorded QueueSink
  pub new : Recorded QueueSink
  pub run : IsHubRun size old.history old.core
  pub records : HubRecords size old v c r new w
  pub consistent : AreConsistent size old.core new.core

-- the hub was looked at, in one holding of the lock: the history so far, all of which the share has seen now, had led
-- to this state; no call was made
pub record IsSight (size : Size) (v : Seen) (s : Core QueueSink) (w : Seen) : Type 0 where
  pub run : IsHubRun size w.seen s
  pub looks : Looks (IsHubLegal size) v w
  pub consistent : IsStateOf size s

-- this was so of the hub when it was looked at
abbrev pub IsLook : Size → Seen → (Core QueueSink → Type 0) → Seen → Type 0
IsLook size v fact w = (s : Core QueueSink) × IsSight size v s w × fact s

-- numbers from this one on, each above the one before it
abbrev pub AreRising : ℕ → List ℕ → Type 0
AreRising low [] = ⊤
AreRising low (k ∷ more) = (low ≤ k) × AreRising (suc k) more

-- between two moments a share made these calls, in this order, and no others: their entries stand in the history that
-- it has seen then, behind all that it had seen before; and no part of it is gone
pub record Makes (size : Size) (v : Seen) (calls : List HubEntry) (w : Seen) : Type 0 where
  pub begins : IsPrefix v.seen w.seen
  pub places : List ℕ
  pub own : w.own ≡ v.own ++ places
  pub rising : AreRising (length v.seen) places
  pub stand : map (slice_get w.seen) places ≡ map Some calls
  pub parts : w.parts ≡ v.parts
  pub legal : IsHubLegal size v.seen → IsHubLegal size w.seen

-- at some moment between two the history had led to a state of which this is so
pub record WasSo (size : Size) (v w : Seen) (fact : Core QueueSink → Type 0) : Type 0 where
  pub log : List HubEntry
  pub state : Core QueueSink
  pub from : IsPrefix v.seen log
  pub to : IsPrefix log w.seen
  pub run : IsHubRun size log state
  pub consistent : IsStateOf size state
  pub so : fact state

-- the call that subscribes, from the version that is named or the latest one on
abbrev pub subscribing : Option ℕ → Token Program → QueueSink → HubCall
subscribing None program sink = call.Subscribe program sink
subscribing (Some first) program sink = call.SubscribeFrom program sink first
