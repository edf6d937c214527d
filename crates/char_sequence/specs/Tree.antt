-- The tree of the inserts among a set of operations (Peritext, CSCW 2022).
-- A set of operations is a list of which only membership is asked.
use Rattle.std.specs.Prelude.{◌≡◌, ℕ, List, Option, Some, None, Contains}
use Rattle.change_ops.specs.Ids.{Less}
use Rattle.change_ops.specs.declared.id.OpId.{OpId}
use Rattle.change_ops.specs.declared.operation.Op.{Op}
use Rattle.change_ops.specs.declared.operation.Op.TheVariants.{Insert, Remove, Revive}

-- the operations insert the character x under p; None is the root
abbrev pub Inserts : List Op → OpId → Option OpId → Type 0
Inserts ops x p = (c : ℕ) × Contains ops (Insert x p c)

abbrev pub Present : List Op → OpId → Type 0
Present ops x = (p : Option OpId) × Inserts ops x p

-- an operation takes the removal back
abbrev pub IsTakenBack : List Op → OpId → Type 0
IsTakenBack ops removal = (v : OpId) × Contains ops (Revive v removal)

-- the id is that of a removal
abbrev pub IsRemoval : List Op → OpId → Type 0
IsRemoval ops r = (x : OpId) × Contains ops (Remove r x)

-- a removal of the character isn't taken back; it stays in the tree
abbrev pub IsHidden : List Op → OpId → Type 0
IsHidden ops x = (r : OpId) × Contains ops (Remove r x) × (IsTakenBack ops r → ⊥)

-- the removal is the character's only one that isn't taken back
pub record HidesAlone (ops : List Op) (removal x : OpId) : Type 0 where
  pub removes : Contains ops (Remove removal x)
  pub stands : IsTakenBack ops removal → ⊥
  pub only : (r : OpId) → Contains ops (Remove r x) → (IsTakenBack ops r → ⊥) → r ≡ removal

-- the second is the first, or descends from it; each is a character, or None, which is the root
pub data Within (ops : List Op) (a : Option OpId) : Option OpId → Type 0 where
  itself : Within ops a a
  below : {p : Option OpId} {x : OpId} → Within ops a p → Inserts ops x p → Within ops a (Some x)

-- the character `x` descends from `a`, a character or the root
abbrev pub Ancestor : List Op → Option OpId → OpId → Type 0
Ancestor ops a x = (p : Option OpId) × Within ops a p × Inserts ops x p

-- the inserts are a tree: each character has one parent, with a lesser id, and descends from the root
pub record IsTree (ops : List Op) : Type 0 where
  pub one : (x : OpId) (p q : Option OpId) → Inserts ops x p → Inserts ops x q → p ≡ q
  pub grows : (x p : OpId) → Inserts ops x (Some p) → Less p x
  pub rooted : (x : OpId) (p : Option OpId) → Inserts ops x p → Within ops None p
