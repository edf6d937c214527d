-- Marks chosen among others, which give the characters between two places the formats that all of them give.
use Rattle.std.specs.Prelude.{◌<◌, ◌≤◌, ◌⊎◌, ℕ, List, Contains}
use Rattle.change_ops.specs.Ids.{Less}
use Rattle.change_ops.specs.Operations.{id_of}
use Rattle.change_ops.specs.declared.attribute.Key.{Key}
use Rattle.change_ops.specs.declared.operation.Op.{Op}
use Rattle.char_sequence.specs.declared.sequence.Element.{Element}
use Rattle.mark_anchors.specs.Places.{IsOfKey, Lies}
use Rattle.mark_anchors.specs.declared.placed.PlacedMark.{PlacedMark}

-- the mark covers no place from `low` on and below `high`
pub record IsOutside (es : List Element) (low high : ℕ) (o : Op) : Type 0 where
  pub first : ℕ
  pub last : ℕ
  pub lies : Lies es o first last
  pub apart : (place : ℕ) → low ≤ place → place < high → (place < first) ⊎ (last ≤ place)

-- a chosen mark of the same key and with a greater id covers each of these places
pub record IsOverruled (es : List Element) (low high : ℕ) (chosen : List Op) (o : Op) : Type 0 where
  pub by : Op
  pub among : Contains chosen by
  pub key : Key
  pub of_key : IsOfKey key o
  pub by_key : IsOfKey key by
  pub greater : Less (id_of o) (id_of by)
  pub first : ℕ
  pub last : ℕ
  pub lies : Lies es by first last
  pub covers : (first ≤ low) × (high ≤ last)

-- the chosen ones are of the marks, and each other one is outside or overruled
pub record AreChosen (es : List Element) (low high : ℕ) (marks chosen : List Op) : Type 0 where
  pub held : (o : Op) → Contains chosen o → Contains marks o
  pub others : (o : Op) → Contains marks o
      → Contains chosen o ⊎ (IsOutside es low high o ⊎ IsOverruled es low high chosen o)

-- what is seen of chosen marks: the operations, and each with its places
pub record ChosenMarks : Type 0 where
  pub operations : List Op
  pub marks : List PlacedMark
