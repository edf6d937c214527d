-- Marks with the places that they cover.
use Rattle.std.specs.Prelude.{◌≡◌, ℕ, ◌<◌, ◌≤◌, List, [], Option, Some, MatchOption, length, slice_get}
use Rattle.std.specs.declared.vec.Vec.{Vec}
use Rattle.change_ops.specs.Ids.{Less}
use Rattle.change_ops.specs.Operations.{id_of, key_of}
use Rattle.change_ops.specs.declared.id.OpId.{OpId}
use Rattle.change_ops.specs.declared.attribute.Key.{Key}
use Rattle.change_ops.specs.declared.attribute.Key.TheVariants.{Row}
use Rattle.change_ops.specs.declared.attribute.Attribute.{Attribute}
use Rattle.change_ops.specs.declared.keys.TheConstants.{KEYS}
use Rattle.change_ops.specs.declared.operation.Op.{Op}
use Rattle.char_sequence.specs.declared.sequence.Element.{Element}
use Rattle.mark_anchors.specs.Format.{Bears}
use Rattle.mark_anchors.specs.Places.{IsOfKey, Lies}
use Rattle.mark_anchors.specs.declared.placed.PlacedMark.{PlacedMark}

-- the mark is the operation, which is of the key, with its places
pub record IsPlaced (es : List Element) (key : Key) (o : Op) (p : PlacedMark) : Type 0 where
  pub of_key : IsOfKey key o
  pub id : p.id ≡ id_of o
  pub lies : Lies es o p.start p.end

-- the marks are the first `count` operations with their places, in the same order
pub record AreFirstMarks (es : List Element) (operations : List Op) (count : ℕ) (marks : List PlacedMark) : Type 0 where
  pub sized : length marks ≡ count
  pub placed : (i : ℕ) (p : PlacedMark) → slice_get marks i ≡ Some p
      → (p.index ≡ i) × ((o : Op) × (slice_get operations i ≡ Some o) × IsPlaced es p.key o p)

abbrev pub AreAllPlaced : List Element → List Op → List PlacedMark → Type 0
AreAllPlaced es operations marks = AreFirstMarks es operations (length operations) marks

-- the marks are the operations of the key among the first `count`
pub record AreFirstPlaced (es : List Element) (operations : List Op) (key : Key) (count : ℕ)
    (marks : List PlacedMark) : Type 0 where
  pub placed : (i : ℕ) (p : PlacedMark) → slice_get marks i ≡ Some p
      → (o : Op) × (slice_get operations p.index ≡ Some o) × IsPlaced es key o p
  pub listed : (j : ℕ) (o : Op) → j < count → slice_get operations j ≡ Some o → IsOfKey key o
      → (i : ℕ) × ((p : PlacedMark) × (slice_get marks i ≡ Some p) × (p.index ≡ j))

abbrev pub ArePlaced : List Element → List Op → Key → List PlacedMark → Type 0
ArePlaced es operations key marks = AreFirstPlaced es operations key (length operations) marks

-- a list for each key of one value: the marks of the key, which are its operations among the first `count`
pub record AreFirstByRow {A : Type 0} (es : List Element) (operations : List Op) (count : ℕ)
    (lists : List (Vec PlacedMark A)) : Type 0 where
  pub sized : length lists ≡ KEYS
  pub each : (row : ℕ) (marks : Vec PlacedMark A) → slice_get lists row ≡ Some marks
      → AreFirstPlaced es operations (Row row) count marks.items

-- a list for each key of one value, none of which has a mark
pub record AreUnfilled {A : Type 0} (lists : List (Vec PlacedMark A)) : Type 0 where
  pub sized : length lists ≡ KEYS
  pub empty : (row : ℕ) (marks : Vec PlacedMark A) → slice_get lists row ≡ Some marks → marks.items ≡ []

abbrev pub CoversPlace : PlacedMark → ℕ → Type 0
CoversPlace p place = (p.start ≤ place) × (place < p.end)

-- it covers the place, and none of the first `count` that do has a greater id
pub record IsGreatest (marks : List PlacedMark) (place count : ℕ) (b : PlacedMark) : Type 0 where
  pub at : (i : ℕ) × (slice_get marks i ≡ Some b)
  pub covers : CoversPlace b place
  pub greatest : (i : ℕ) (p : PlacedMark) → i < count → slice_get marks i ≡ Some p → CoversPlace p place
      → Less b.id p.id → ⊥

-- the greatest of those that cover the place, if there is one
abbrev pub IsBest : List PlacedMark → ℕ → ℕ → Option PlacedMark → Type 0
IsBest marks place count best =
    MatchOption best ((i : ℕ) (p : PlacedMark) → i < count → slice_get marks i ≡ Some p → CoversPlace p place
    → ⊥) (λ b. IsGreatest marks place count b)

-- the value of the key at the character, if it holds
pub record IsValue (ops : List Op) (key : Key) (e : OpId) (value : Option Attribute) : Type 0 where
  pub some : (a : Attribute) → value ≡ Some a → (key_of a ≡ key) × Bears ops e a
  pub all : (a : Attribute) → key_of a ≡ key → Bears ops e a → value ≡ Some a
