-- The ids that operations name, among other operations.
use Rattle.std.specs.Prelude.{◌↔◌, ◌⊎◌, ◌++◌, ◌∷◌, [], List, Contains, Result, Ok, Err}
use Rattle.change_ops.specs.declared.id.OpId.{OpId}
use Rattle.change_ops.specs.declared.operation.Op.{Op}
use Rattle.change_ops.specs.Operations.{Names, NamesRemoval}
use Rattle.char_sequence.specs.Tree.{Present, IsRemoval}
use Rattle.replica.specs.declared.known.Known.{Known}
use Rattle.replica.specs.declared.known.Blocked.{Blocked}
use Rattle.replica.specs.declared.known.Blocked.TheVariants.{Waits, OutOfMemory}

-- all that the operation names is there: each character and removal is that of an operation
pub record CausesAreThere (ops : List Op) (op : Op) : Type 0 where
  pub characters : (x : OpId) → Names op x → Present ops x
  pub removals : (r : OpId) → NamesRemoval op r → IsRemoval ops r

-- the operation names the id, of which no operation is a character, or a removal
abbrev pub IsMissing : List Op → Op → OpId → Type 0
IsMissing ops op id = (Names op id × (Present ops id → ⊥)) ⊎ (NamesRemoval op id × (IsRemoval ops id → ⊥))

-- the causes of each of several operations are there, or stand before it among them
abbrev pub AllCausesAreThere : List Op → List Op → Type 0
AllCausesAreThere ops [] = Unit {0}
AllCausesAreThere ops (op ∷ added) = CausesAreThere ops op × AllCausesAreThere (ops ++ op ∷ []) added

-- one of them names an id that isn't there and that no operation before it among them is
abbrev pub IsMissingAmong : List Op → List Op → OpId → Type 0
IsMissingAmong ops [] id = ⊥
IsMissingAmong ops (op ∷ added) id = IsMissing ops op id ⊎ IsMissingAmong (ops ++ op ∷ []) added id

-- what is kept of operations
pub record Knows (ops : List Op) (known : Known) : Type 0 where
  pub characters : (x : OpId) → Contains known.characters x ↔ Present ops x
  pub removals : (r : OpId) → Contains known.removals r ↔ IsRemoval ops r

-- they are counted where all causes are there
abbrev pub Passes : List Op → Known → Known → Result (Unit {0}) Blocked → Type 0
Passes added old new (Ok done) =
    (ops : List Op) → Knows ops old → AllCausesAreThere ops added × Knows (ops ++ added) new
Passes added old new (Err (Waits id)) = (ops : List Op) → Knows ops old → IsMissingAmong ops added id
Passes added old new (Err OutOfMemory) = Unit {0}
