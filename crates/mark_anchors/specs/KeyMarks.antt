-- The marks of a key by rising ids, painted over the places at which they begin and end.
use Rattle.std.specs.Prelude.{◌≡◌, ℕ, ◌+◌, ◌<◌, ◌≤◌, ◌⊎◌, ◌↔◌, List, Option, Some, None, Contains, length, slice_get}
use Rattle.std.specs.List.Sorted.{IsStrictlyIncreasing}
use Rattle.change_ops.specs.Ids.{Less}
use Rattle.mark_anchors.specs.Placed.{CoversPlace, IsBest}
use Rattle.mark_anchors.specs.declared.placed.PlacedMark.{PlacedMark}

-- no mark has a greater id than one behind it
abbrev pub AreById : List PlacedMark → Type 0
AreById marks =
    (i j : ℕ) (p q : PlacedMark) → i < j → slice_get marks i ≡ Some p → slice_get marks j ≡ Some q → Less q.id p.id → ⊥

-- `n` of the places are before this one
abbrev pub IsCountBelow : List ℕ → ℕ → ℕ → Type 0
IsCountBelow places place n = (j x : ℕ) → slice_get places j ≡ Some x → (j < n) ↔ (x < place)

-- `n` of the places are at this one or before it
abbrev pub IsCountUpTo : List ℕ → ℕ → ℕ → Type 0
IsCountUpTo places place n = (j x : ℕ) → slice_get places j ≡ Some x → (j < n) ↔ (x ≤ place)

-- the mark with this number
abbrev pub numbered : List PlacedMark → Option ℕ → Option PlacedMark
numbered marks None = None
numbered marks (Some number) = slice_get marks number

-- a mark begins or ends at the place
abbrev pub IsEndOf : List PlacedMark → ℕ → Type 0
IsEndOf marks place = (m : PlacedMark) × Contains marks m × ((m.start ≡ place) ⊎ (m.end ≡ place))

-- none of the marks begins or ends behind the one place and before the other
abbrev pub AreStill : List PlacedMark → ℕ → ℕ → Type 0
AreStill marks place until =
    (m : PlacedMark) → Contains marks m → ((m.start ≤ place) ⊎ (until ≤ m.start)) × ((m.end ≤ place) ⊎ (until ≤ m.end))

-- the marks begin and end at places among these, which rise
pub record AreEnds (marks : List PlacedMark) (places : List ℕ) : Type 0 where
  pub rising : IsStrictlyIncreasing places
  pub begins : (m : PlacedMark) → Contains marks m → Contains places m.start
  pub ends : (m : PlacedMark) → Contains marks m → Contains places m.end

-- at each place the mark of this number is the greatest, among the first `count`, of those that cover it
pub record ArePainted (places : List ℕ) (marks : List PlacedMark) (count : ℕ) (numbers : List (Option ℕ)) : Type 0 where
  pub sized : length numbers ≡ length places
  pub best : (j place : ℕ) (number : Option ℕ) → slice_get places j ≡ Some place → slice_get numbers j ≡ Some number
      → IsBest marks place count (numbered marks number)

-- the places at which the marks begin and end, and which mark decides from each of them on
pub record AreOver (marks : List PlacedMark) (places : List ℕ) (numbers : List (Option ℕ)) : Type 0 where
  pub rising : IsStrictlyIncreasing places
  pub begins : (m : PlacedMark) → Contains marks m → Contains places m.start
  pub ends : (m : PlacedMark) → Contains marks m → Contains places m.end
  pub painted : ArePainted places marks (length marks) numbers

-- none of the marks numbered from this one on covers the place
abbrev pub NoneCovers : List PlacedMark → ℕ → ℕ → Type 0
NoneCovers marks from place = (i : ℕ) (m : PlacedMark) → from ≤ i → slice_get marks i ≡ Some m → CoversPlace m place → ⊥

-- the mark of this number covers the place, and none behind it does
abbrev pub IsLast : List PlacedMark → ℕ → ℕ → Type 0
IsLast marks place number =
    (m : PlacedMark) × (slice_get marks number ≡ Some m) × CoversPlace m place × NoneCovers marks (number + 1) place

-- at each place is the number of the last mark that covers it, where one of those numbered from this one on does
pub record ArePaintedFrom (places : List ℕ) (marks : List PlacedMark) (from : ℕ) (numbers : List (Option ℕ)) : Type 0
  where
    pub sized : length numbers ≡ length places
    pub without : (j place : ℕ) → slice_get places j ≡ Some place → slice_get numbers j ≡ Some None
        → NoneCovers marks from place
    pub last : (j place number : ℕ) → slice_get places j ≡ Some place → slice_get numbers j ≡ Some (Some number)
        → IsLast marks place number

-- a jump to itself: the place of this index isn't painted
abbrev pub IsFree : List ℕ → ℕ → Type 0
IsFree jumps j = slice_get jumps j ≡ Some j

-- no index from the one up to the other is free
abbrev pub NoneFree : List ℕ → ℕ → ℕ → Type 0
NoneFree jumps from to = (j : ℕ) → from ≤ j → j < to → IsFree jumps j → ⊥

-- each jump leads past indices that aren't free
abbrev pub AreJumps : List ℕ → Type 0
AreJumps jumps = (i to : ℕ) → slice_get jumps i ≡ Some to → (i ≤ to) × (to < length jumps) × NoneFree jumps i to

-- the first free index from the one on
abbrev pub IsNextFree : List ℕ → ℕ → ℕ → Type 0
IsNextFree jumps from next = (from ≤ next) × IsFree jumps next × NoneFree jumps from next

-- jumps past the indices that have a number, and one that stands behind all of them
pub record AreJumpsOver (jumps : List ℕ) (numbers : List (Option ℕ)) : Type 0 where
  pub past : AreJumps jumps
  pub sized : length jumps ≡ length numbers + 1
  pub free : (j : ℕ) → j < length numbers → IsFree jumps j ↔ (slice_get numbers j ≡ Some None)
