-- Changes of the first form: each of their lines is an operation, and they are read by these alone.
use Rattle.std.specs.Prelude.{◌≡◌, ℕ, ◌≤◌, List, [], ◌∷◌, ◌++◌, map, length, codes, IsTrue}
use Rattle.std.specs.Fmt.{decimal}
use Rattle.std.specs.List.{AllByRecursion}
use Rattle.change_ops.specs.Limits.{op_within, has_character}
use Rattle.change_ops.specs.Operations.{id_of}
use Rattle.change_ops.specs.Lines.{has_op}
use Rattle.change_ops.specs.Changes.{Change, IsChange, operations}
use Rattle.change_ops.specs.Spelling.{◌␣◌, op_text, change_text}
use Rattle.change_ops.specs.declared.operation.Op.{Op}
use Rattle.change_ops.specs.declared.line.Form.TheVariants.{First}
use Rattle.change_ops.specs.declared.line.Line.TheVariants.{Operation}

-- operations, each on a line of its own
unfoldable pub ops_text : List Op → List ℕ
ops_text [] = []
ops_text (op ∷ ops) = op_text op ++ 10 ∷ ops_text ops

-- the change of the first form that spells operations out
abbrev pub spelled_out : ℕ → List Op → Change
spelled_out node ops = record { form = First; node = node; lines = map Operation ops }

-- an operation of this peer that the first form has, within the limits
pub record IsPlainOp (node : ℕ) (op : Op) : Type 0 where
  pub own : (id_of op).node ≡ node
  pub within : IsTrue (op_within op)
  pub character : IsTrue (has_character op)
  pub had : IsTrue (has_op First op)

-- 1 to 256 such operations
pub record ArePlainOps (node : ℕ) (ops : List Op) : Type 0 where
  pub named : 1 ≤ node
  pub known : node ≤ 65535
  pub some : 1 ≤ length ops
  pub few : length ops ≤ 256
  pub each : AllByRecursion (IsPlainOp node) ops

-- The changes of the first form are those that spell such operations out, with a line for each.
pub record FirstFormIsPlain : Type 0 where
  pub each : (change : Change) → IsChange change → change.form ≡ First
      → ArePlainOps change.node (operations change) × (change ≡ spelled_out change.node (operations change))
  pub all : (node : ℕ) (ops : List Op) → ArePlainOps node ops
      → IsChange (spelled_out node ops) × (operations (spelled_out node ops) ≡ ops)
  pub text : (node : ℕ) (ops : List Op)
      → change_text (spelled_out node ops) ≡ (codes "change" ␣ decimal node ␣ decimal (length ops)) ++ 10 ∷ ops_text ops
