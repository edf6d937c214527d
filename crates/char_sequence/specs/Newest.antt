-- The last counter of each peer among a set of operations (Peritext, CSCW 2022).
use Rattle.std.specs.Prelude.{◌≡◌, ◌⊎◌, ℕ, ◌≤◌, List, Some, Contains}
use Rattle.std.specs.Ordering.{nat_cmp}
use Rattle.std.specs.FinMap.{FinMap, get}
use Rattle.change_ops.specs.Operations.{id_of}
use Rattle.change_ops.specs.declared.operation.Op.{Op}

-- an operation of the peer has its last counter, and none of them a greater one
pub record IsNewest (ops : List Op) (newest : FinMap nat_cmp ℕ) : Type 0 where
  pub covered : (o : Op) → Contains ops o
      → (last : ℕ) × (get newest (id_of o).node ≡ Some last) × ((id_of o).counter ≤ last)
  pub reached : (node last : ℕ) → get newest node ≡ Some last
      → (o : Op) × Contains ops o × ((id_of o).node ≡ node) × ((id_of o).counter ≡ last)

-- an operation of the peer has the counter, and none of them a greater one
pub record IsLast (ops : List Op) (node last : ℕ) : Type 0 where
  pub covered : (o : Op) → Contains ops o → (id_of o).node ≡ node → (id_of o).counter ≤ last
  pub reached : (o : Op) × Contains ops o × ((id_of o).node ≡ node) × ((id_of o).counter ≡ last)

-- the same, and 0 where the peer has no operation
abbrev pub IsLastCounter : List Op → ℕ → ℕ → Type 0
IsLastCounter ops node counter =
    IsLast ops node counter ⊎ ((counter ≡ 0) × ((o : Op) → Contains ops o → (id_of o).node ≡ node → ⊥))
