-- The subscribers of a session, and what requests do to them.
use Rattle.std.specs.Prelude.{◌≡◌, ◌<◌, ◌≤◌, ◌⊎◌, ◌==◌, ℕ, Bool, Option, None, Some, Result, Ok, List, []}
use Rattle.std.specs.Prelude.{◌∷◌, ◌++◌, Err, length, position, slice_get, slice_set, IsTrue, IsFalse}
use Rattle.std.specs.List.{remove}
use Rattle.change_ops.specs.declared.size.Size.{Size}
use Rattle.change_ops.specs.Sizes.{most_changes}
use Rattle.filters.specs.declared.rules.RuleSet.{RuleSet}
use Rattle.bpf_words.specs.Words.{IsProgram, IsRefused, program_of}
use Rattle.semantics.specs.Step.{Program}
use Rattle.filters.specs.Accepted.{IsAccepted, IsRefused as IsRefusedBy}
use Rattle.version_history.specs.Tokens.{Token}
use Rattle.stream_readers.specs.Readers.{Reader, fresh}
use Rattle.hub_core.specs.Machine.{Core, HasNoPlace}
use Rattle.hub_core.specs.declared.error.SubscribeError.{SubscribeError}
use Rattle.hub_core.specs.declared.error.SubscribeError.TheVariants as subscribe
use Rattle.hub_core.specs.declared.run.Reply.TheVariants as told
use Rattle.core_history.specs.declared.entry.Call.TheVariants as call
use Rattle.core_history.specs.Runs.{called}
use Rattle.hub_core.specs.declared.error.NoSubscriber.{NoSubscriber}
use Rattle.subscriber_queues.specs.Queue.{QueueSink, IsCapacity}
use Rattle.core_history.specs.Hubs.{Seen}
use Rattle.ingest_workers.specs.Calls.{Makes, IsLook, IsSight, WasSo}
use Rattle.hub_requests.specs.Limits.{takes_subscriber, after_subscriber}
use Rattle.hub_requests.specs.declared.limits.SessionLimits.{SessionLimits}
use Rattle.refusals.specs.declared.reason.Reason.{Reason}
use Rattle.refusals.specs.declared.reason.Reason.TheVariants as reason
use Rattle.session_lines.specs.declared.reply.Reply.{Reply}
use Rattle.session_lines.specs.declared.reply.Reply.TheVariants as reply
use Rattle.session_subscribers.specs.Items.{Gives, GivesShort}

-- a subscriber that a session holds: its id, and how far its program's stream was read
pub record Held : Type 0 where
  pub id : ℕ
  pub reader : Reader

-- the index of the one with an id among these
abbrev pub index_in : List Held → ℕ → Option ℕ
index_in held id = position (λ one. one.id == id) held

-- the first version of a subscriber: the one that is named, or the latest when the hub was looked at
abbrev pub IsFirst : Size → Seen → Seen → Option ℕ → ℕ → Type 0
IsFirst size v w None first = WasSo size v w (λ s. first ≡ length s.changes)
IsFirst size v w (Some number) first = first ≡ number

-- the one call that was made subscribes a program from such a version on, with a queue that nothing was sent to, and is
-- answered so
pub record Asks (size : Size) (v w : Seen) (program : Token Program) (named : Option ℕ) (first : ℕ)
    (answer : Result ℕ SubscribeError) : Type 0
  where
    pub from : IsFirst size v w named first
    pub sink : QueueSink
    pub none : sink.sent ≡ []
    pub calls : Makes size v (called (call.SubscribeFrom program sink first) (told.Subscribed answer) ∷ []) w

-- the bytes are a program that the rules accept
abbrev pub AreSafe : RuleSet → List ℕ → Type 0
AreSafe rules bytes = IsProgram bytes × IsAccepted rules (program_of bytes)

-- the one call that was made was refused for this
abbrev pub IsRefusedFor : Size → Seen → Seen → List ℕ → Option ℕ → SubscribeError → Type 0
IsRefusedFor size v w bytes named error =
    (program : Token Program) × (first : ℕ) × (program.value ≡ program_of bytes)
    × Asks size v w program named first (Err error)

-- the hub was looked at, and had a place; and when it was looked at again, no version had this number yet
abbrev pub LacksVersion : Size → Seen → Seen → ℕ → Type 0
LacksVersion size v w number =
    (u : Seen) × IsLook size v (λ s. ¬ HasNoPlace s) u × IsLook size u (λ s. length s.changes < number) w

-- why it was not. What the hub would refuse whatever the program is, is looked at before a call is made
abbrev pub IsNotSubscribed : Size → Seen → Seen → RuleSet → ℕ → List ℕ → Option ℕ → Reason → Type 0
IsNotSubscribed size v w rules capacity bytes first (reason.Words error) = IsRefused bytes error × (w ≡ v)
IsNotSubscribed size v w rules capacity bytes first (reason.Unverified error) =
    IsProgram bytes × IsRefusedBy rules (program_of bytes) error × (w ≡ v)
IsNotSubscribed size v w rules capacity bytes first reason.BadCapacity =
    AreSafe rules bytes × (¬ IsCapacity capacity) × Makes size v [] w
IsNotSubscribed size v w rules capacity bytes first reason.SubscribersFull =
    AreSafe rules bytes × (IsLook size v HasNoPlace w ⊎ IsRefusedFor size v w bytes first subscribe.SubscribersFull)
IsNotSubscribed size v w rules capacity bytes (Some number) reason.NoVersion =
    AreSafe rules bytes
    × (LacksVersion size v w number ⊎ IsRefusedFor size v w bytes (Some number) subscribe.NoVersion)
IsNotSubscribed size v w rules capacity bytes first reason.OutOfMemory =
    AreSafe rules bytes × (Makes size v [] w ⊎ IsRefusedFor size v w bytes first subscribe.OutOfMemory)
IsNotSubscribed size v w rules capacity bytes first _ = ⊥

-- the session may have no subscriber more, and the bytes were looked at first
abbrev pub IsPastShare : Seen → Seen → RuleSet → List ℕ → SessionLimits → Reason → Type 0
IsPastShare v w rules bytes left why =
    (why ≡ reason.SubscribersFull) × AreSafe rules bytes × IsFalse (takes_subscriber left) × (w ≡ v)

-- one more is held: the program of these bytes, which the rules accept, with nothing read of its stream; and the
-- session has one less left; or the same as before
abbrev pub Adds : Size → Seen → Seen → RuleSet → ℕ → List ℕ → Option ℕ → SessionLimits → List Held → Reply
    → SessionLimits → List Held → Type 0
Adds size v w rules capacity bytes named left held (reply.Subscribed id) left' held' =
    AreSafe rules bytes × IsCapacity capacity × (program : Token Program) × (program.value ≡ program_of bytes)
    × (first : ℕ) × Asks size v w program named first (Ok id)
    × (held' ≡ held ++ record { id = id; reader = fresh program first } ∷ [])
    × IsTrue (takes_subscriber left) × (left' ≡ after_subscriber left)
Adds size v w rules capacity bytes first left held (reply.Refused why) left' held' =
    (held' ≡ held) × (left' ≡ left)
    × (IsNotSubscribed size v w rules capacity bytes first why ⊎ IsPastShare v w rules bytes left why)
Adds size v w rules capacity bytes first left held _ left' held' = ⊥

-- the one with the id is closed at the hub, by the one call that was made, and held no more, and the others are; or
-- none had it. Where the hub had it as closed, the call is refused
abbrev pub Closes : Size → Seen → Seen → List Held → ℕ → Reply → List Held → Type 0
Closes size v w held id (reply.Closed closed) held' =
    (closed ≡ id) × (index : ℕ) × (index_in held id ≡ Some index) × (held' ≡ remove held index)
    × (found : Result (Unit {0}) NoSubscriber) × Makes size v (called (call.Close id) (told.Closed found) ∷ []) w
Closes size v w held id (reply.Refused why) held' =
    (why ≡ reason.NoSubscriber) × (index_in held id ≡ None) × (held' ≡ held) × (w ≡ v)
Closes size v w held id _ held' = ⊥

-- all that was due when the hub was looked at was given
abbrev pub IsAllGiven : Core QueueSink → Reader → Type 0
IsAllGiven s r = (r.pending ≡ []) × (length s.changes < r.next)

-- how a pull is answered that asked for at most `count` items and was given so many, where the hub was looked at: with
-- their number, which is `count` unless all that is due was given, or that no memory was found. A session that may read
-- of the text is told besides where it was given none since the hub has accepted as many changes as its size allows, so
-- that no version comes any more
abbrev pub TellsItems : Size → Core QueueSink → Bool → ℕ → ℕ → Reader → Reply → Type 0
TellsItems size s reads count many r (reply.Items told) =
    (told ≡ many) × (many < count → IsAllGiven s r)
    × (many ≡ 0 → 0 < count → IsTrue reads → length s.changes < most_changes size)
TellsItems size s reads count many r reply.NoItemsFull =
    (many ≡ 0) × (0 < count) × IsAllGiven s r × IsTrue reads × (length s.changes ≡ most_changes size)
TellsItems size s reads count many r (reply.Refused why) = why ≡ reason.OutOfMemory
TellsItems size s reads count many r _ = ⊥

-- the hub was looked at once, and no call made; of the versions that it had then items were given, at most `count`, and
-- it is answered how many, or that no memory was found
pub record Pulls (size : Size) (v w : Seen) (reads : Bool) (count : ℕ) (r r' : Reader) (out out' : List ℕ)
    (answer : Reply) : Type 0
  where
    pub state : Core QueueSink
    pub sight : IsSight size v state w
    pub many : ℕ
    pub most : many ≤ count
    pub gives : Gives state.versions many r r' out out'
    pub told : TellsItems size state reads count many r' answer

-- items of the subscriber with the id were given, and of no other
pub record PullsHeld (size : Size) (v w : Seen) (reads : Bool) (id count : ℕ) (held held' : List Held)
    (out out' : List ℕ) (answer : Reply) : Type 0
  where
    pub index : ℕ
    pub there : index_in held id ≡ Some index
    pub one : Held
    pub is : slice_get held index ≡ Some one
    pub reader : Reader
    pub others : held' ≡ slice_set held index (record one { reader = reader })
    pub pulls : Pulls size v w reads count one.reader reader out out' answer

-- or none had it, and nothing was done
pub record PullsNone (v w : Seen) (id : ℕ) (held held' : List Held) (out out' : List ℕ) (answer : Reply) : Type 0 where
  pub still : w ≡ v
  pub none : index_in held id ≡ None
  pub same : held' ≡ held
  pub printed : out' ≡ out
  pub told : answer ≡ reply.Refused reason.NoSubscriber

abbrev pub PullsAny : Size → Seen → Seen → Bool → ℕ → ℕ → List Held → List Held → List ℕ → List ℕ → Reply → Type 0
PullsAny size v w reads id count held held' out out' answer =
    PullsHeld size v w reads id count held held' out out' answer ⊎ PullsNone v w id held held' out out' answer

-- no memory was found for the lines of a pull: the hub was looked at once, items of the subscriber with the id were
-- given, and of no other, and whole lines of them are printed
pub record PullsShort (size : Size) (v w : Seen) (id count : ℕ) (held held' : List Held) (out out' : List ℕ) : Type 0
  where
    pub state : Core QueueSink
    pub sight : IsSight size v state w
    pub index : ℕ
    pub there : index_in held id ≡ Some index
    pub one : Held
    pub is : slice_get held index ≡ Some one
    pub reader : Reader
    pub others : held' ≡ slice_set held index (record one { reader = reader })
    pub gives : GivesShort state.versions count one.reader reader out out'
