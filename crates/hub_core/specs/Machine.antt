-- The states of a hub's core, and what each call may do to one. What a definition doesn't name stays as it was.
use Rattle.std.specs.Prelude.{◌≡◌, ℕ, ◌+◌, ◌<◌, ◌≤◌, false, true, Option, None, Some, Result, Ok, Err, List, [], ◌∷◌}
use Rattle.std.specs.Prelude.{◌++◌, ◌⊎◌, Bool, not, length, count_by, slice_get, slice_set, All}
use Rattle.change_ops.specs.Changes.{Change}
use Rattle.change_ops.specs.declared.size.Size.{Size}
use Rattle.change_ops.specs.Sizes.{most_changes, most_subscribers, most_open}
use Rattle.semantics.specs.Step.{Program}
use Rattle.span_flatten.specs.Version.{Version}
use Rattle.version_history.specs.Tokens.{Token}
use Rattle.feeds.specs.Batches.{Item, Job}
use Rattle.feeds.specs.Feed.{Subscriber, IsFed, IsWanted, IsDue, IsNext, Moved, Stops, fresh, holding, rewound}
use Rattle.feeds.specs.Feed.{nothing_held}
use Rattle.change_history.specs.Accepted.{IsAccepted, IsRefused}
use Rattle.change_history.specs.VersionAt.{IsVersionAt}
use Rattle.change_history.specs.declared.refusal.SubmitError.{SubmitError}
use Rattle.hub_core.specs.declared.error.SubscribeError.{SubscribeError}
use Rattle.hub_core.specs.declared.error.SubscribeError.TheVariants as subscribe
use Rattle.hub_core.specs.declared.error.CommitError.{CommitError}
use Rattle.hub_core.specs.declared.error.CommitError.TheVariants as commit
use Rattle.hub_core.specs.declared.error.NoSubscriber.{NoSubscriber}

-- how much the document may hold, the accepted changes, the tokens of their versions from version 0 on, and the
-- subscribers, whose ids are their indexes in this list
pub record Core (S : Type 0) : Type 0 where
  pub size : Size
  pub changes : List Change
  pub versions : List (Token Version)
  pub subscribers : List (Subscriber S)

-- this open subscriber has this id
abbrev pub IsOpen : {S : Type 0} → Core S → ℕ → Subscriber S → Type 0
IsOpen s id a = (slice_get s.subscribers id ≡ Some a) × (a.closed ≡ false)

abbrev pub is_open : {S : Type 0} → Subscriber S → Bool
is_open a = not a.closed

-- one subscriber more may be added: as many as the size allows weren't yet, closed ones counted, and as many aren't
-- open
pub record HasPlace {S : Type 0} (s : Core S) : Type 0 where
  pub added : length s.subscribers < most_subscribers s.size
  pub at_once : count_by is_open s.subscribers < most_open s.size

-- as many were, or are open
abbrev pub HasNoPlace : {S : Type 0} → Core S → Type 0
HasNoPlace s =
    (most_subscribers s.size ≤ length s.subscribers) ⊎ (most_open s.size ≤ count_by is_open s.subscribers)

-- no open subscriber has this id
abbrev pub HasNone : {S : Type 0} → Core S → ℕ → Type 0
HasNone {S} s id = (a : Subscriber S) → slice_get s.subscribers id ≡ Some a → a.closed ≡ true

-- the state with another subscriber at this id
abbrev pub with_subscriber : {S : Type 0} → Core S → ℕ → Subscriber S → Core S
with_subscriber s id a = record s { subscribers = slice_set s.subscribers id a }

-- a core of a size at its start: no change, no subscriber, and the token of version 0
pub record IsStart {S : Type 0} (size : Size) (s : Core S) : Type 0 where
  pub of : s.size ≡ size
  pub changes : s.changes ≡ []
  pub subscribers : s.subscribers ≡ []
  pub version : (t : Token Version) × (s.versions ≡ t ∷ []) × IsVersionAt [] 0 t.value

-- a change is accepted after those before it, and its version's token is answered; or it is refused
abbrev pub Submits : {S : Type 0} → Core S → Change → Result (Token Version) SubmitError → Core S → Type 0
Submits s c (Ok t) s' =
    IsAccepted s.size s.changes c × IsVersionAt (s.changes ++ c ∷ []) (length s.changes + 1) t.value
    × (s' ≡ record s { changes = s.changes ++ c ∷ []; versions = s.versions ++ t ∷ [] })
Submits s c (Err e) s' = (s' ≡ s) × IsRefused s.size s.changes c e

-- a program is subscribed, from this version on, which is the latest or an earlier one
abbrev pub Subscribes : {S : Type 0} → Core S → ℕ → Token Program → S → Result ℕ SubscribeError → Core S → Type 0
Subscribes s first p sink (Ok id) s' =
    HasPlace s × (first ≤ length s.changes) × (id ≡ length s.subscribers)
    × (s' ≡ record s { subscribers = s.subscribers ++ fresh p first sink ∷ [] })
Subscribes s first p sink (Err subscribe.SubscribersFull) s' = (s' ≡ s) × HasNoPlace s
Subscribes s first p sink (Err subscribe.NoVersion) s' = (s' ≡ s) × HasPlace s × (length s.changes < first)
Subscribes s first p sink (Err subscribe.OutOfMemory) s' = (s' ≡ s) × HasPlace s × (first ≤ length s.changes)

-- a job of any open subscriber that has one is handed out, or none has one; where the state isn't known, None says
-- nothing of the hub, since it holds of each state with no subscriber
abbrev pub TakesJob : {S : Type 0} → Core S → Option Job → Core S → Type 0
TakesJob {S} s (Some job) s' =
    (a : Subscriber S) × IsOpen s job.subscriber a × IsNext (length s.changes) a job.number × (job.program ≡ a.program)
    × (slice_get s.versions job.number ≡ Some job.version)
    × (s' ≡ with_subscriber s job.subscriber (record a { handed = job.number + 1 }))
TakesJob {S} s None s' =
    (s' ≡ s) × ((id : ℕ) (a : Subscriber S) → IsOpen s id a → (n : ℕ) → ¬ IsDue (length s.changes) a n)

-- the job of the first version that this open subscriber waits for, as it would be handed out again; or it waits for
-- none; where the state isn't known, None says nothing of the hub, since with no subscriber it holds for every id
abbrev pub Misses : {S : Type 0} → Core S → ℕ → Option Job → Type 0
Misses {S} s id (Some job) =
    (a : Subscriber S) × IsOpen s id a × IsNext (length s.changes) (rewound a) job.number × (job.subscriber ≡ id)
    × (job.program ≡ a.program)
    × (slice_get s.versions job.number ≡ Some job.version)
Misses {S} s id None = (a : Subscriber S) → IsOpen s id a → (n : ℕ) → ¬ IsDue (length s.changes) (rewound a) n

-- what the subscriber with an id is found to have
abbrev pub FindsAt : {S : Type 0} → Core S → ℕ → Option ℕ → Type 0
FindsAt {S} s id (Some n) = (a : Subscriber S) × IsOpen s id a × IsNext (length s.changes) a n
FindsAt {S} s id None = (a : Subscriber S) → IsOpen s id a → (n : ℕ) → ¬ IsDue (length s.changes) a n

-- the first open subscriber that has a job, and its version; or none has one
abbrev pub FindsJob : {S : Type 0} → Core S → Option (ℕ × ℕ) → Type 0
FindsJob s (Some found) = FindsAt s found.0 (Some found.1) × ((id : ℕ) → id < found.0 → FindsAt s id None)
FindsJob s None = (id : ℕ) → FindsAt s id None

-- a batch that its subscriber waits for is held
abbrev pub Commits : {S : Type 0} → Core S → Job → Result (Unit {0}) CommitError → Core S → Type 0
Commits {S} s b (Ok _) s' =
    (a : Subscriber S) × IsOpen s b.subscriber a × IsWanted s.versions a b
    × (s' ≡ with_subscriber s b.subscriber (holding a b))
Commits s b (Err commit.NoSubscriber) s' = (s' ≡ s) × HasNone s b.subscriber
Commits s b (Err commit.OutOfMemory) s' = s' ≡ s
Commits {S} s b (Err commit.Stale) s' =
    (s' ≡ s) × (a : Subscriber S) × IsOpen s b.subscriber a × (¬ IsWanted s.versions a b)

-- what is not held may be handed out again; where the state isn't known, Err says nothing of the hub, since with no
-- subscriber it holds for every id
abbrev pub Reissues : {S : Type 0} → Core S → ℕ → Result (Unit {0}) NoSubscriber → Core S → Type 0
Reissues {S} s id (Ok _) s' = (a : Subscriber S) × IsOpen s id a × (s' ≡ with_subscriber s id (rewound a))
Reissues s id (Err _) s' = (s' ≡ s) × HasNone s id

-- closed for good, with its sink, and with nothing held; where the state isn't known, Err says nothing of the hub,
-- since with no subscriber it holds for every id
abbrev pub Closes : {S : Type 0} → (S → S) → Core S → ℕ → Result (Unit {0}) NoSubscriber → Core S → Type 0
Closes {S} closed_sink s id (Ok _) s' =
    (a : Subscriber S) × IsOpen s id a
    × (s' ≡ with_subscriber s id (record a { held = nothing_held; closed = true; sink = closed_sink a.sink }))
Closes closed_sink s id (Err _) s' = (s' ≡ s) × HasNone s id

module _ {S : Type 0} (sent : S → List Item) (full : S → Type 0) where
  -- that many items of held batches are sent, in order, until the next batch isn't held or the sink is full; all that
  -- was sent is then what the subscriber's cursor and count say, and the sink stays what it is but for that; where the
  -- state isn't known, Err says nothing of the hub, since with no subscriber it holds for every id
  abbrev pub Pumps : (S → S) → Core S → ℕ → Result ℕ NoSubscriber → Core S → Type 0
  Pumps bare s id (Ok m) s' =
      (a : Subscriber S) × (b : Subscriber S) × IsOpen s id a × Moved sent full bare a m b × Stops sent full b
      × IsFed sent full s.versions b
      × (s' ≡ with_subscriber s id b)
  Pumps bare s id (Err _) s' = (s' ≡ s) × HasNone s id

  -- what the core's type keeps
  pub record IsSound (s : Core S) : Type 0 where
    pub named : length s.versions ≡ length s.changes + 1
    pub few : length s.changes ≤ most_changes s.size
    pub few_subscribers : length s.subscribers ≤ most_subscribers s.size
    pub few_open : count_by is_open s.subscribers ≤ most_open s.size
    pub versions_are : (n : ℕ) (t : Token Version) → slice_get s.versions n ≡ Some t → IsVersionAt s.changes n t.value
    pub fed : All (IsFed sent full s.versions) s.subscribers
