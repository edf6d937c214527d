-- The rule of a subscriber's queue: what was sent is what was taken and then what waits.
use Rattle.std.specs.Prelude.{◌≡◌, ℕ, ◌≤◌, Bool, true, Option, List, ◌++◌, length}
use mathlib.Core.Option.{some}
use lib.ListN.{get_elem?}
use Rattle.feeds.specs.Batches.{Item}
use Rattle.feeds.specs.Orderly.{IsOrderly}
use Rattle.feeds.specs.Promise.{Promise, IsPromised}
use Rattle.subscriber_queues.specs.Queue.{Begins}

-- what an end knows: whether it may send or take, how many items may wait, what it promised and was promised, what it
-- sent and took, and a beginning of what was sent
pub record Knows : Type 0 where
  pub sends : Bool
  pub takes : Bool
  pub capacity : ℕ
  pub gives : Option Promise
  pub gets : Option Promise
  pub sent : List Item
  pub taken : List Item
  pub shown : List Item

abbrev pub knows : Bool → Bool → ℕ → Option Promise → Option Promise → List Item → List Item → List Item → Knows
knows sends takes capacity gives gets sent taken shown =
    record {
      sends = sends;
      takes = takes;
      capacity = capacity;
      gives = gives;
      gets = gets;
      sent = sent;
      taken = taken;
      shown = shown;
    }

-- what is so of a queue: the numbers of its two ends, how many items may wait, what is promised, and what was sent and
-- taken
pub record Facts : Type 0 where
  pub sender : ℕ
  pub taker : ℕ
  pub capacity : ℕ
  pub promise : Option Promise
  pub sent : List Item
  pub taken : List Item

-- only the sender's end may send, and it knows what was sent; only the taker's may take, and it knows what was taken;
-- both know what is promised; what any was shown was sent
pub record Fits (f : Facts) (number : ℕ) (v : Knows) : Type 0 where
  pub sends : v.sends ≡ true
      → (number ≡ f.sender) × (v.capacity ≡ f.capacity) × (v.sent ≡ f.sent) × (v.gives ≡ f.promise)
  pub takes : v.takes ≡ true
      → (number ≡ f.taker) × (v.capacity ≡ f.capacity) × (v.taken ≡ f.taken) × (v.gets ≡ f.promise)
  pub shown : Begins v.shown f.sent

-- the rule, over the items that wait, the oldest first, and over what the ends know
pub record IsKept (waiting : List Item) (ends : List Knows) : Type 0 where
  pub facts : Facts
  pub in_order : facts.sent ≡ facts.taken ++ waiting
  pub few : length waiting ≤ facts.capacity
  pub orderly : IsOrderly facts.sent
  pub promised : IsPromised facts.promise facts.sent
  pub fit : (number : ℕ) (v : Knows) → get_elem? ends number ≡ some v → Fits facts number v
