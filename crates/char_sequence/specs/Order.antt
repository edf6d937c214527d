-- The order of a text's characters, and the elements that show a set of operations (Peritext, CSCW 2022).
use Rattle.std.specs.Prelude.{◌≡◌, ℕ, ◌<◌, List, Option, Some, ◌⊎◌, Contains, true, false, slice_get}
use Rattle.change_ops.specs.Ids.{Less}
use Rattle.change_ops.specs.Operations.{id_of, Names, NamesRemoval}
use Rattle.change_ops.specs.declared.id.OpId.{OpId}
use Rattle.change_ops.specs.declared.operation.Op.{Op}
use Rattle.change_ops.specs.declared.operation.Op.TheVariants.{Insert}
use Rattle.char_sequence.specs.declared.sequence.Element.{Element}
use Rattle.char_sequence.specs.Tree.{Inserts, Present, IsRemoval, IsHidden, Within, Ancestor, IsTree}

-- the two stand on different branches of one parent, of which the first has the greater id
pub record Fork (ops : List Op) (a : Option OpId) (b : OpId) : Type 0 where
  pub at : Option OpId
  pub left : OpId
  pub right : OpId
  pub left_branch : Inserts ops left at
  pub right_branch : Inserts ops right at
  pub greater : Less right left
  pub on_left : Within ops (Some left) a
  pub on_right : Within ops (Some right) (Some b)

-- a character or the root stands before those that descend from it, and before lesser branches
abbrev pub Before : List Op → Option OpId → OpId → Type 0
Before ops a b = Ancestor ops a b ⊎ Fork ops a b

-- the character is that of the element at this place
abbrev pub IsAt : List Element → OpId → ℕ → Type 0
IsAt es id place = (e : Element) × (slice_get es place ≡ Some e) × (e.id ≡ id)

-- the elements stand in the order of the tree
abbrev pub Ordered : List Op → List Element → Type 0
Ordered ops es =
    (i j : ℕ) (x y : Element) → i < j → slice_get es i ≡ Some x → slice_get es j ≡ Some y → Before ops (Some x.id) y.id

-- the elements are the inserted characters in order, the hidden ones among them, with what is visible of them
pub record IsText (ops : List Op) (es : List Element) : Type 0 where
  pub ordered : Ordered ops es
  pub listed : (x : OpId) (p : Option OpId) (c : ℕ) → Contains ops (Insert x p c)
      → (i : ℕ) × ((e : Element) × (slice_get es i ≡ Some e) × (e.id ≡ x) × (e.character ≡ c))
  pub inserted : (i : ℕ) (e : Element) → slice_get es i ≡ Some e
      → (p : Option OpId) × Contains ops (Insert e.id p e.character)
  pub shown : (i : ℕ) (e : Element) → slice_get es i ≡ Some e → e.visible ≡ true → IsHidden ops e.id → ⊥
  pub hidden : (i : ℕ) (e : Element) → slice_get es i ≡ Some e → e.visible ≡ false → IsHidden ops e.id

-- what acceptance keeps of the operations, marks too, and that the elements are their text
pub record Shows (es : List Element) (ops : List Op) : Type 0 where
  pub tree : IsTree ops
  pub distinct : (o p : Op) → Contains ops o → Contains ops p → id_of o ≡ id_of p → o ≡ p
  pub named : (o : Op) (x : OpId) → Contains ops o → Names o x → Present ops x
  pub removals : (o : Op) (r : OpId) → Contains ops o → NamesRemoval o r → IsRemoval ops r
  pub text : IsText ops es

-- two lists of operations are one set
pub record SameSet (first second : List Op) : Type 0 where
  pub forth : (o : Op) → Contains first o → Contains second o
  pub back : (o : Op) → Contains second o → Contains first o
