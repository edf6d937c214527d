-- What a subscriber has, what it was sent, and what it keeps.
use Rattle.std.specs.Prelude.{◌≡◌, ℕ, ◌+◌, ◌-◌, ◌<◌, ◌≤◌, ◌⊎◌, Bool, false, true, Option, None, Some, List, [], ◌∷◌}
use Rattle.std.specs.Prelude.{◌++◌, length, take, drop, replicate, slice_get, slice_set}
use Rattle.std.proofs.Common.{zero, suc}
use Rattle.semantics.specs.Step.{Program}
use Rattle.span_flatten.specs.Version.{Version}
use Rattle.version_history.specs.Tokens.{Token}
use Rattle.feeds.specs.Batches.{Item, Job, items_of}
use Rattle.feeds.specs.Orderly.{items_of_all}

-- the batches that are held: at position i that of the version i after the cursor
abbrev pub HeldBatches : Type 0
HeldBatches = List (Option Job)

-- a subscriber: its program, the first version that it is sent, the cursor (the first version that is not sent whole),
-- the version from which on jobs are handed out, the held batches, how many items of the cursor's batch are sent,
-- whether it is closed, and its sink
pub record Subscriber (S : Type 0) : Type 0 where
  pub program : Token Program
  pub first : ℕ
  pub cursor : ℕ
  pub handed : ℕ
  pub held : HeldBatches
  pub count : ℕ
  pub closed : Bool
  pub sink : S

-- a batch is held at this position
abbrev pub IsHeldAt : HeldBatches → ℕ → Type 0
IsHeldAt held i = (b : Job) × (slice_get held i ≡ Some (Some b))

-- nothing is held
abbrev pub nothing_held : HeldBatches
nothing_held = replicate 8 None

-- a subscriber that was sent nothing yet
abbrev pub fresh : {S : Type 0} → Token Program → ℕ → S → Subscriber S
fresh p n sink =
    record {
      program = p;
      first = n;
      cursor = n;
      handed = n;
      held = nothing_held;
      count = 0;
      closed = false;
      sink = sink;
    }

-- jobs are handed out from the cursor on again
abbrev pub rewound : {S : Type 0} → Subscriber S → Subscriber S
rewound a = record a { handed = a.cursor }

-- the cursor has moved on by one version
abbrev pub slide : HeldBatches → HeldBatches
slide held = drop 1 held ++ None ∷ []

-- by several
abbrev pub slid : ℕ → HeldBatches → HeldBatches
slid zero held = held
slid (suc d) held = slide (slid d held)

-- the items of the version at this position
abbrev pub items_at : Token Program → List (Token Version) → ℕ → List Item
items_at p [] n = []
items_at p (t ∷ ts) zero = items_of p t
items_at p (t ∷ ts) (suc n) = items_at p ts n

-- what a subscriber was sent: the batches of the versions from its first one to the one before the cursor, and a part
-- of the cursor's
abbrev pub sent_of : {S : Type 0} → List (Token Version) → Subscriber S → List Item
sent_of ts s = items_of_all s.program (drop s.first (take s.cursor ts)) ++ take s.count (items_at s.program ts s.cursor)

-- a held batch is that of the version at its position, for the subscriber's program
abbrev pub IsOwed : {S : Type 0} → List (Token Version) → Subscriber S → Type 0
IsOwed ts s = (i : ℕ) (b : Job) → slice_get s.held i ≡ Some (Some b)
    → (b.number ≡ s.cursor + i) × (b.program ≡ s.program) × (slice_get ts (s.cursor + i) ≡ Some b.version)

-- the batch is one that the subscriber waits for: not below the cursor, at most seven versions above it, not held yet,
-- for its program, and of the hub's token of that version
pub record IsWanted {S : Type 0} (versions : List (Token Version)) (a : Subscriber S) (b : Job) : Type 0 where
  pub low : a.cursor ≤ b.number
  pub high : b.number ≤ a.cursor + 7
  pub missing : ¬ IsHeldAt a.held (b.number - a.cursor)
  pub program : b.program ≡ a.program
  pub version : slice_get versions b.number ≡ Some b.version

-- the subscriber with the batch held
abbrev pub holding : {S : Type 0} → Subscriber S → Job → Subscriber S
holding a b = record a { held = slice_set a.held (b.number - a.cursor) (Some b) }

-- what a commit does to its subscriber
abbrev pub Keeps : {S : Type 0} → List (Token Version) → Subscriber S → Job → Bool → Subscriber S → Type 0
Keeps ts a b true a' = IsWanted ts a b × (a' ≡ holding a b)
Keeps ts a b false a' = (¬ IsWanted ts a b) × (a' ≡ a)

-- a version for which a job may be handed out, where this is the latest
pub record IsDue {S : Type 0} (latest : ℕ) (a : Subscriber S) (n : ℕ) : Type 0 where
  pub above_handed : a.handed ≤ n
  pub above_cursor : a.cursor ≤ n
  pub published : n ≤ latest
  pub near : n ≤ a.cursor + 7
  pub missing : ¬ IsHeldAt a.held (n - a.cursor)

-- the least of them
pub record IsNext {S : Type 0} (latest : ℕ) (a : Subscriber S) (n : ℕ) : Type 0 where
  pub due : IsDue latest a n
  pub least : (m : ℕ) → m < n → ¬ IsDue latest a m

-- the next version for a job, if there is one
abbrev pub Finds : {S : Type 0} → ℕ → Subscriber S → Option ℕ → Type 0
Finds latest a (Some n) = IsNext latest a n
Finds latest a None = (n : ℕ) → ¬ IsDue latest a n

module _ {S : Type 0} (sent : S → List Item) (full : S → Type 0) where
  -- what a subscriber keeps, where these are the tokens of the hub's versions
  pub record IsFed (ts : List (Token Version)) (s : Subscriber S) : Type 0 where
    pub wide : length s.held ≡ 8
    pub begun : s.first ≤ s.cursor
    pub behind : s.cursor ≤ length ts
    pub sent_is : sent s.sink ≡ sent_of ts s
    pub part : 0 < s.count → s.count < length (items_at s.program ts s.cursor)
    pub part_held : 0 < s.count → s.closed ≡ false → IsHeldAt s.held 0
    pub owed : IsOwed ts s

  -- that many items more were sent, all of versions that were held; the cursor went on by some versions, and nothing
  -- else changed, of the sink too, which is seen by this view of what a push keeps
  pub record Moved (bare : S → S) (old : Subscriber S) (m : ℕ) (new : Subscriber S) : Type 0 where
    pub steps : ℕ
    pub more : List Item
    pub same : new ≡ record old {
      cursor = old.cursor + steps;
      held = slid steps old.held;
      count = new.count;
      sink = new.sink;
    }
    pub held : (i : ℕ) → i < steps → IsHeldAt old.held i
    pub many : length more ≡ m
    pub sent_more : sent new.sink ≡ sent old.sink ++ more
    pub sink_kept : bare new.sink ≡ bare old.sink

  -- the cursor's batch is not held, or the sink may refuse
  abbrev pub Stops : Subscriber S → Type 0
  Stops s = ¬ IsHeldAt s.held 0 ⊎ full s.sink
