-- Where the marks of a text begin and end, and which way these places go when characters are put there.
use Rattle.std.specs.Prelude.{◌≡◌, ◌<◌, ℕ, Bool, true, false, List, Some, Contains, length, slice_get}
use Rattle.change_ops.specs.declared.operation.Anchor.{Anchor}
use Rattle.change_ops.specs.declared.operation.Anchor.TheVariants.{TextStart, BeforeCharacter, AfterCharacter, TextEnd}
use Rattle.change_ops.specs.declared.operation.Op.{Op}
use Rattle.char_sequence.specs.declared.sequence.Element.{Element}
use Rattle.mark_anchors.specs.Anchored.{Begins, Ends}
use Rattle.mark_anchors.specs.Placed.{IsPlaced}
use Rattle.mark_places.specs.MarkPlace.{MarkPlace}

-- characters that are put where the anchor is stand before it
abbrev pub gives_way : Anchor → Bool
gives_way TextStart = false
gives_way (BeforeCharacter x) = true
gives_way (AfterCharacter x) = false
gives_way TextEnd = true

-- the mark is the operation with its places, and says of each of its anchors whether it gives way
pub record IsMarkPlace (es : List Element) (o : Op) (p : MarkPlace) : Type 0 where
  pub placed : IsPlaced es p.mark.key o p.mark
  pub start : (a : Anchor) → Begins o a → p.start_gives_way ≡ gives_way a
  pub end : (a : Anchor) → Ends o a → p.end_gives_way ≡ gives_way a

-- each is the operation of its index, and each operation has one, in whatever order
pub record AreMarkPlaces (es : List Element) (operations : List Op) (places : List MarkPlace) : Type 0 where
  pub sized : length places ≡ length operations
  pub each : (p : MarkPlace) → Contains places p
      → (o : Op) × (slice_get operations p.mark.index ≡ Some o) × IsMarkPlace es o p
  pub listed : (i : ℕ) → i < length operations → (p : MarkPlace) × Contains places p × (p.mark.index ≡ i)
