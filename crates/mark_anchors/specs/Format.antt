-- The format of a character: for each key the covering operation with the greatest id decides
-- (Peritext, CSCW 2022).
use Rattle.std.specs.Prelude.{◌≡◌, ◌↔◌, ◌<◌, ℕ, List, Option, Some, None, Contains, length}
use Rattle.std.specs.List.Sorted.{IsStrictlyIncreasing}
use Rattle.change_ops.specs.Ids.{Less}
use Rattle.change_ops.specs.Operations.{id_of, key_of}
use Rattle.change_ops.specs.declared.id.OpId.{OpId}
use Rattle.change_ops.specs.declared.attribute.Key.{Key}
use Rattle.change_ops.specs.declared.attribute.Attribute.{Attribute}
use Rattle.change_ops.specs.declared.attribute.Attribute.TheVariants.{Comment}
use Rattle.change_ops.specs.declared.operation.Op.{Op}
use Rattle.change_ops.specs.declared.operation.Op.TheVariants.{Insert, Remove, AddMark, RemoveMark, Revive}
use Rattle.mark_anchors.specs.Anchors.{Covers}
use Rattle.change_ops.specs.declared.keys.TheConstants.{KEYS}
use Rattle.change_ops.specs.declared.value.Value.{Value}
use Rattle.change_ops.specs.Reading.{valued}
use Rattle.mark_anchors.specs.Formatting.{Format, value_in}

-- the operation adds or removes a mark of the key over the character
abbrev pub Touches : List Op → Key → OpId → Op → Type 0
Touches ops key e (Insert id parent character) = ⊥
Touches ops key e (Remove id target) = ⊥
Touches ops key e (AddMark id attribute start end) = (key_of attribute ≡ key) × Covers ops start end e
Touches ops key e (RemoveMark id k start end) = (k ≡ key) × Covers ops start end e
Touches ops key e (Revive id removal) = ⊥

-- it touches the character, and no other that does has a greater id
pub record Decides (ops : List Op) (key : Key) (e : OpId) (o : Op) : Type 0 where
  pub held : Contains ops o
  pub touches : Touches ops key e o
  pub greatest : (p : Op) → Contains ops p → Touches ops key e p → Less (id_of o) (id_of p) → ⊥

-- what an operation adds: a key with its value
abbrev pub added : Op → Option Attribute
added (Insert id parent character) = None
added (Remove id target) = None
added (AddMark id attribute start end) = Some attribute
added (RemoveMark id k start end) = None
added (Revive id removal) = None

-- the key holds at the character with this value: the operation that decides is an add
abbrev pub Bears : List Op → OpId → Attribute → Type 0
Bears ops e attribute = (o : Op) × Decides ops (key_of attribute) e o × (added o ≡ Some attribute)

-- the format says of each key whether it holds, and with which value
pub record IsFormat (ops : List Op) (e : OpId) (f : Format) : Type 0 where
  pub sized : length f.values ≡ KEYS
  pub rows : (row : ℕ) (value : Value) → row < KEYS → (value_in f row ≡ Some value) ↔ Bears ops e (valued row value)
  pub comments : (n : ℕ) → Contains f.comments n ↔ Bears ops e (Comment n)
  pub rising : IsStrictlyIncreasing f.comments
