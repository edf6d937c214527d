-- Nodes of a tree, as the lists of their pieces.
use Rattle.std.specs.Prelude.{◌≡◌, ◌<◌, ◌≤◌, ℕ, List, [], ◌∷◌, length, flat_map, sum_by}
use Rattle.piece_tree.specs.declared.piece.Measure.{Measure}
use Rattle.piece_tree.specs.declared.piece.Measure.TheVariants.{Parts, Characters}

-- the pieces of the nodes, one after another
abbrev pub pieces_of : {X : Type 0} → List (List X) → List X
pieces_of nodes = flat_map (λ node. node) nodes

-- a node has 1 to 32 pieces
abbrev pub IsSized : {X : Type 0} → List X → Type 0
IsSized node = (0 < length node) × (length node ≤ 32)

-- a node that is at least half full
abbrev pub IsHalfFull : {X : Type 0} → List X → Type 0
IsHalfFull node = (16 ≤ length node) × (length node ≤ 32)

-- each node is at least half full
abbrev pub AreHalfFull : {X : Type 0} → List (List X) → Type 0
AreHalfFull [] = Unit {0}
AreHalfFull (node ∷ nodes) = IsHalfFull node × AreHalfFull nodes

-- each node but the last is at least half full, and the last has a piece
abbrev pub AreFilled : {X : Type 0} → List (List X) → Type 0
AreFilled [] = Unit {0}
AreFilled (node ∷ []) = IsSized node
AreFilled (node ∷ next ∷ nodes) = IsHalfFull node × AreFilled (next ∷ nodes)

-- by each measure the pieces are short together
pub record AreShort {X : Type 0} (size : Measure → X → ℕ) (pieces : List X) : Type 0 where
  pub parts : sum_by (size Parts) pieces ≤ 2097152
  pub characters : sum_by (size Characters) pieces ≤ 2097152

-- what the root keeps: its nodes are filled, and it knows how many pieces they have and how large these are
pub record IsRoot {X : Type 0} (size : Measure → X → ℕ) (nodes : List (List X)) (count parts characters : ℕ)
    : Type 0 where
  pub filled : AreFilled nodes
  pub counted : count ≡ length (pieces_of nodes)
  pub few : count ≤ 2097152
  pub short : AreShort size (pieces_of nodes)
  pub in_parts : parts ≡ sum_by (size Parts) (pieces_of nodes)
  pub in_characters : characters ≡ sum_by (size Characters) (pieces_of nodes)
