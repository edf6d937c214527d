-- Marks with the places that they cover.
use Rattle.std.specs.Prelude.{Bool}
use Rattle.mark_anchors.specs.declared.placed.PlacedMark.{PlacedMark}

-- a mark with its places, and whether characters that are put where one of its anchors is stand before the anchor
pub record MarkPlace : Type 0 where
  pub mark : PlacedMark
  pub start_gives_way : Bool
  pub end_gives_way : Bool
