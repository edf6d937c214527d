-- The one history of a core: what each call does, and what it adds.
use Rattle.std.specs.Prelude.{◌≡◌, ◌⊎◌, ℕ, Option, Some, List, [], ◌∷◌, ◌++◌, length}
use Rattle.change_ops.specs.declared.size.Size.{Size}
use Rattle.semantics.specs.Step.{Program}
use Rattle.span_flatten.specs.Version.{Version}
use Rattle.version_history.specs.Tokens.{Token}
use Rattle.feeds.specs.Batches.{Item, Job}
use Rattle.hub_core.specs.Machine.{Core, IsStart, Submits, Subscribes, TakesJob, Commits, Pumps, Reissues, Closes}
use Rattle.hub_core.specs.Consistent.{IsConsistent}
use Rattle.hub_core.specs.declared.run.Reply.{Reply}
use Rattle.hub_core.specs.declared.run.Reply.TheVariants as reply
use Rattle.call_history.specs.Calls.{Holds, Extends}
use Rattle.core_history.specs.declared.entry.Call.{Call}
use Rattle.core_history.specs.declared.entry.Call.TheVariants as call
use Rattle.core_history.specs.declared.entry.Entry.{Entry}
use Rattle.core_history.specs.declared.entry.Entry.TheVariants as entry

abbrev pub CoreCall : Type 0 → Type 0
CoreCall S = Call (Token Program) S Job

abbrev pub CoreReply : Type 0
CoreReply = Reply (Token Version) Job

abbrev pub CoreEntry : Type 0 → Type 0
CoreEntry S = Entry (Token Program) S (Token Version) Job

-- the entry of a call with its reply
abbrev pub called : {S : Type 0} → CoreCall S → CoreReply → CoreEntry S
called c r = entry.Called c r

-- a core of a size with no change and no subscriber, with this token of version 0
abbrev pub started : {S : Type 0} → Size → Token Version → Core S
started size first = record { size = size; changes = []; versions = first ∷ []; subscribers = [] }

-- a core with the history that has led to it
pub record Recorded (S : Type 0) : Type 0 where
  pub core : Core S
  pub history : List (CoreEntry S)

-- a core of a size was recorded at its start: this is the only entry of the history, and the own call of the token of
-- all parts
pub record Starts {S : Type 0} (size : Size) (s : Core S) (parts : ℕ) (new : Recorded S)
    (w : Holds (CoreEntry S)) : Type 0
  where
    pub first : Token Version
    pub start : IsStart size s
    pub core : s ≡ started size first
    pub recorded : new ≡ record { core = s; history = entry.Started first ∷ [] }
    pub all : w ≡ record { seen = entry.Started first ∷ []; own = 0 ∷ []; parts = parts }

module _ {S : Type 0} (sent : S → List Item) (full : S → Type 0) (closed_sink bare : S → S) where
  -- what a call does that is answered so
  abbrev pub Happens : Core S → CoreCall S → CoreReply → Core S → Type 0
  Happens s (call.Submit change) (reply.Submitted r) s' = Submits s change r s'
  Happens s (call.Subscribe program sink) (reply.Subscribed r) s' =
      Subscribes s (length s.changes) program sink r s'
  Happens s (call.SubscribeFrom program sink first) (reply.Subscribed r) s' = Subscribes s first program sink r s'
  Happens s call.TakeJob (reply.Handed r) s' = TakesJob s r s'
  Happens s (call.Commit job) (reply.Committed r) s' = Commits s job r s'
  Happens s (call.Pump id) (reply.Pumped r) s' = Pumps sent full bare s id r s'
  Happens s (call.Reissue id) (reply.Reissued r) s' = Reissues s id r s'
  Happens s (call.Close id) (reply.Closed r) s' = Closes closed_sink s id r s'
  Happens s _ _ s' = ⊥

  -- the calls happened in order, each with its reply, and each left a consistent core
  abbrev pub IsRun : Core S → List (CoreEntry S) → Core S → Type 0
  IsRun s [] t = t ≡ s
  IsRun s (entry.Called c r ∷ log) t =
      (mid : Core S) × Happens s c r mid × IsConsistent sent full mid × IsRun mid log t
  IsRun s (entry.Started first ∷ log) t = ⊥

module _ {S : Type 0} (size : Size) (sent : S → List Item) (full : S → Type 0) (closed_sink bare : S → S) where
  -- the history begins with the start of a core of this size, and its calls lead from there to this state
  abbrev pub IsRunOf : List (CoreEntry S) → Core S → Type 0
  IsRunOf (entry.Started first ∷ log) t =
      IsStart size (started {S = S} size first) × IsRun sent full closed_sink bare (started size first) log t
  IsRunOf (entry.Called c r ∷ log) t = ⊥
  IsRunOf [] t = ⊥

  -- no core was made yet, or the history is one of a core
  abbrev pub IsLegal : List (CoreEntry S) → Type 0
  IsLegal log = (log ≡ []) ⊎ ((t : Core S) × IsRunOf log t)

  -- one call was made and recorded: the core did what it says; its entry is the last of the history, all of which the
  -- caller has seen now; and this entry, and no other, is one more of the caller's own calls
  pub record Records (old : Recorded S) (v : Holds (CoreEntry S)) (c : CoreCall S) (r : CoreReply) (new : Recorded S)
      (w : Holds (CoreEntry S)) : Type 0
    where
      pub happens : Happens sent full closed_sink bare old.core c r new.core
      pub history : new.history ≡ old.history ++ called c r ∷ []
      pub extends : Extends IsLegal v (called c r) w
      pub seen : w.seen ≡ new.history

  -- the entry is that of a call that led from the end of the history to this state
  abbrev pub LedTo : List (CoreEntry S) → Option (CoreEntry S) → Core S → Type 0
  LedTo log e t =
      (s : Core S) × (c : CoreCall S) × (r : CoreReply) × (e ≡ Some (called c r)) × IsRunOf log s
      × Happens sent full closed_sink bare s c r t
