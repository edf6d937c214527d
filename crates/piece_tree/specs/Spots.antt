-- Places of a sequence of pieces.
use Rattle.std.specs.Prelude.{◌≡◌, ◌<◌, ◌≤◌, ◌+◌, ℕ, List, length, take, sum_by}
use Rattle.piece_tree.specs.declared.piece.Measure.{Measure}
use Rattle.piece_tree.specs.declared.piece.Measure.TheVariants.{Parts, Characters}
use Rattle.piece_tree.specs.declared.spot.Spot.{Spot}

-- that of two sizes that is meant
abbrev pub measured : Measure → ℕ → ℕ → ℕ
measured Parts parts characters = parts
measured Characters parts characters = characters

-- the spot's piece is the first one that ends at the place or behind it, and it says how much stands before that piece;
-- there is no such piece where all end before the place
pub record IsReached {X : Type 0} (size : Measure → X → ℕ) (measure : Measure) (pieces : List X) (place : ℕ)
    (spot : Spot) : Type 0 where
  pub within : spot.index ≤ length pieces
  pub parts : spot.parts ≡ sum_by (size Parts) (take spot.index pieces)
  pub characters : spot.characters ≡ sum_by (size Characters) (take spot.index pieces)
  pub before : 0 < spot.index → sum_by (size measure) (take spot.index pieces) < place
  pub reached : spot.index < length pieces → place ≤ sum_by (size measure) (take (spot.index + 1) pieces)
