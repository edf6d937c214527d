-- The greatest ids, by key, of the marks that cover a whole window, and which marks are kept for it.
use Rattle.std.specs.Prelude.{◌≡◌, ◌⊎◌, ℕ, ◌<◌, ◌≤◌, Bool, true, false, List, Option, Some, None, MatchOption}
use Rattle.std.specs.Prelude.{Contains, length, slice_get, slice_index_or}
use Rattle.change_ops.specs.Ids.{Less}
use Rattle.change_ops.specs.declared.id.OpId.{OpId}
use Rattle.change_ops.specs.declared.attribute.Key.{Key}
use Rattle.change_ops.specs.declared.attribute.Key.TheVariants as key
use Rattle.change_ops.specs.declared.operation.Op.{Op}
use Rattle.mark_anchors.specs.declared.placed.PlacedMark.{PlacedMark}
use Rattle.mark_places.specs.declared.floors.Floors.{Floors}

-- what was found for the key; nothing for comments
abbrev pub floor_of : Floors → Key → Option OpId
floor_of floors (key.Row row) = slice_index_or floors.rows row None
floor_of floors (key.Comment number) = None

-- the id, or the one before if the id is below that
abbrev pub IsGreaterOf : Option OpId → OpId → Option OpId → Type 0
IsGreaterOf before id after =
    MatchOption before (after ≡ Some id) (λ found. ((after ≡ Some found) × Less id found)
    ⊎ ((after ≡ Some id) × (Less id found → ⊥)))

-- the keys of one value have a floor; comments don't, as each number is a key of its own
abbrev pub has_floor : Key → Bool
has_floor (key.Row row) = true
has_floor (key.Comment number) = false

-- the key's own floor is the greater of the two, and the others are as they were
pub record IsRaised (key : Key) (id : OpId) (before after : Floors) : Type 0 where
  pub own : has_floor key ≡ true → IsGreaterOf (floor_of before key) id (floor_of after key)
  pub others : (other : Key) → (other ≡ key → ⊥) → floor_of after other ≡ floor_of before other

-- the mark covers all places from `low` up to `high`
abbrev pub CoversAll : ℕ → ℕ → PlacedMark → Type 0
CoversAll low high place = (place.start ≤ low) × (high ≤ place.end)

-- the floor is there, and the id isn't above it
pub record IsFloored (floor : Option OpId) (id : OpId) : Type 0 where
  pub at : OpId
  pub is : floor ≡ Some at
  pub reaches : Less at id → ⊥

-- each floor is the id of a mark of the key that covers the whole window, and none of the first `done` that do is above
pub record AreFirstFloors (places : List PlacedMark) (low high done : ℕ) (floors : Floors) : Type 0 where
  pub found : (key : Key) (id : OpId) → floor_of floors key ≡ Some id
      → (place : PlacedMark) × Contains places place × CoversAll low high place
      × (place.key ≡ key) × (place.id ≡ id)
  pub greatest : (i : ℕ) (place : PlacedMark) → i < done → slice_get places i ≡ Some place → CoversAll low high place
      → has_floor place.key ≡ true → IsFloored (floor_of floors place.key) place.id

abbrev pub AreFloors : List PlacedMark → ℕ → ℕ → Floors → Type 0
AreFloors places low high floors = AreFirstFloors places low high (length places) floors

-- the mark isn't below its key's floor
abbrev pub IsKept : Floors → PlacedMark → Type 0
IsKept floors place = (floor : OpId) → floor_of floors place.key ≡ Some floor → Less place.id floor → ⊥

-- the mark with its number among the chosen ones
abbrev pub numbered : PlacedMark → ℕ → PlacedMark
numbered mark index = record mark { index = index }

-- those of the first `done` marks that are kept, with their operations, numbered anew
pub record AreKept (places : List PlacedMark) (operations : List Op) (floors : Floors) (done : ℕ)
    (chosen : List Op) (marks : List PlacedMark) : Type 0 where
  pub sized : length marks ≡ length chosen
  pub held : (i : ℕ) (p : PlacedMark) → slice_get marks i ≡ Some p
      → (place : PlacedMark) × Contains places place × (p ≡ numbered place i)
      × ((o : Op) × (slice_get operations place.index ≡ Some o) × (slice_get chosen i ≡ Some o))
  pub listed : (i : ℕ) (place : PlacedMark) (o : Op) → i < done → slice_get places i ≡ Some place
      → slice_get operations place.index ≡ Some o → IsKept floors place → Contains chosen o
