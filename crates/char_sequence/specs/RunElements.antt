-- The elements of a run, when it is accepted whole, and what it leaves.
use Rattle.std.specs.Prelude.{◌≡◌, ℕ, ◌+◌, ◌<◌, ◌≤◌, true, List, [], ◌∷◌, Option, Some, length, count_by, insert}
use Rattle.std.specs.Prelude.{encode_utf8_all}
use Rattle.change_ops.specs.Operations.{is_insert}
use Rattle.change_ops.specs.Runs.{next_id}
use Rattle.change_ops.specs.declared.id.OpId.{OpId}
use Rattle.change_ops.specs.declared.operation.Op.{Op}
use Rattle.char_sequence.specs.declared.sequence.Element.{Element}
use Rattle.char_sequence.specs.Acceptance.{Used}
use Rattle.change_ops.specs.declared.size.Size.{Size}
use Rattle.change_ops.specs.Sizes.{most_characters, most_bytes}
use Rattle.char_sequence.specs.Tree.{Present}
use Rattle.char_sequence.specs.Order.{Shows}
use Rattle.char_sequence.specs.Visible.{visible_text}

-- a visible element for each character, the first with the id, each other with the id next to that of the one before
abbrev pub elements_from : OpId → List ℕ → List Element
elements_from id [] = []
elements_from id (character ∷ characters) =
    record { id = id; character = character; visible = true } ∷ elements_from (next_id id) characters

-- the counter is above its peer's last one and above the parent's, the parent is there, and there is room for all
-- characters and for their bytes
pub record AcceptsRun (size : Size) (ops : List Op) (id : OpId) (parent : Option OpId)
    (characters : List ℕ) : Type 0 where
  pub fresh : Used ops id → ⊥
  pub above : (x : OpId) → parent ≡ Some x → id.counter ≤ x.counter → ⊥
  pub known : (x : OpId) → parent ≡ Some x → Present ops x
  pub room : count_by is_insert ops + length characters ≤ most_characters size
  pub space : (es : List Element) → Shows es ops
      → length (visible_text es) + length (encode_utf8_all characters) ≤ most_bytes

-- the id of the same peer whose counter is greater by `by`
abbrev pub later_id : OpId → ℕ → OpId
later_id id by = record { counter = id.counter + by; node = id.node }

-- a list with others put at an index, one behind the other
abbrev pub insert_all : {X : Type 0} → List X → ℕ → List X → List X
insert_all xs index [] = xs
insert_all xs index (y ∷ ys) = insert_all (insert xs index y) (index + 1) ys

-- the ids of the first `count` of a run have the name, and all others what they had
pub record AreEntered (old new : OpId → Option ℕ) (id : OpId) (count name : ℕ) : Type 0 where
  pub named : (by : ℕ) → by < count → new (later_id id by) ≡ Some name
  pub kept : (other : OpId) → ((by : ℕ) → by < count → later_id id by ≡ other → ⊥) → new other ≡ old other
