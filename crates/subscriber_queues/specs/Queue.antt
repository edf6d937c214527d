-- What a clause sees of the ends of a subscriber's queue.
use Rattle.std.specs.Prelude.{◌≡◌, ℕ, ◌≤◌, ◌⊎◌, Bool, false, cond, Option, List, [], ◌++◌, length}
use Rattle.atomic_table.specs.Seated.{TableId}
use Rattle.feeds.specs.Batches.{Item}
use Rattle.feeds.specs.Promise.{Promise}

-- which queue an end is of
abbrev pub Line : Type 0
Line = TableId

-- the hub's end: of which queue, what was sent, how many items may wait, what is promised of all that is sent, and
-- whether it still sends
pub record QueueSink : Type 0 where
  pub line : Line
  pub sent : List Item
  pub capacity : ℕ
  pub promise : Option Promise
  pub sends : Bool

-- the subscriber's end: of which queue, what it was promised, what was taken, and what it knows to have been sent at
-- least
pub record Subscription : Type 0 where
  pub line : Line
  pub promise : Option Promise
  pub taken : List Item
  pub shown : List Item

-- what was sent to a queue up to a moment
pub record Shown : Type 0 where
  pub line : Line
  pub shown : List Item

-- how many items may wait in a queue
abbrev pub IsCapacity : ℕ → Type 0
IsCapacity n = (1 ≤ n) × (n ≤ 1024)

abbrev pub was_sent : QueueSink → List Item
was_sent end = end.sent

-- it is closed, or no fewer were sent than may wait, so that it may refuse one
abbrev pub IsFull : QueueSink → Type 0
IsFull end = (end.sends ≡ false) ⊎ (end.capacity ≤ length end.sent)

-- the end once it is closed
abbrev pub closed_end : QueueSink → QueueSink
closed_end end = record end { sends = false }

-- the end but for what was sent
abbrev pub unsent : QueueSink → QueueSink
unsent end = record end { sent = [] }

-- the first list is a beginning of the second
abbrev pub Begins : List Item → List Item → Type 0
Begins items all = (rest : List Item) × (all ≡ items ++ rest)

-- both are beginnings of one list, so that the shorter one is a beginning of the other
abbrev pub AreBeginnings : List Item → List Item → Type 0
AreBeginnings items others = (all : List Item) × Begins items all × Begins others all

-- what was sent is what was taken and then what waits, no more than may
abbrev pub AreEnds : QueueSink → Subscription → Type 0
AreEnds sink end = (waiting : List Item) × (sink.sent ≡ end.taken ++ waiting) × (length waiting ≤ sink.capacity)

-- what the subscriber's end knows to have been sent once it met the hub's: all, or what it knew where that is closed
abbrev pub shown_of : QueueSink → Subscription → List Item
shown_of sink end = cond sink.sends sink.sent end.shown

-- the two ends met: what was taken and what waits are what was sent, and the subscriber's end knows it
abbrev pub Meets : QueueSink → Subscription → Subscription → Type 0
Meets sink end met = AreEnds sink end × (met ≡ record end { shown = shown_of sink end })
