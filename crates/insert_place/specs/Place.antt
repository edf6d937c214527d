-- Where a writer's character goes (Peritext, CSCW 2022: insertions at the edges of marks, among tombstones).
use Rattle.std.specs.Prelude.{◌≡◌, ◌≤◌, ◌<◌, ◌+◌, ◌⊎◌, ℕ, false, List, Contains, Option, Some, None, slice_get}
use Rattle.change_ops.specs.declared.id.OpId.{OpId}
use Rattle.change_ops.specs.declared.operation.Anchor.TheVariants.{AfterCharacter}
use Rattle.change_ops.specs.declared.operation.Op.{Op}
use Rattle.char_sequence.specs.declared.sequence.Element.{Element}
use Rattle.char_sequence.specs.Index.{HasId}
use Rattle.char_sequence.specs.Order.{IsAt}
use Rattle.mark_anchors.specs.Anchored.{Ends}

-- a mark ends behind the character
abbrev pub BearsEnd : List Op → OpId → Type 0
BearsEnd marks id = (o : Op) × Contains marks o × Ends o (AfterCharacter id)

-- the characters from one place up to another are hidden
abbrev pub AreHidden : List Element → ℕ → ℕ → Type 0
AreHidden es from to =
    (i : ℕ) (e : Element) → from ≤ i → i < to → slice_get es i ≡ Some e → e.visible ≡ false

-- a mark ends behind the last character before the place
abbrev pub EndsBefore : List Element → List Op → ℕ → Type 0
EndsBefore es marks place =
    (i : ℕ) × (place ≡ i + 1) × ((e : Element) × (slice_get es i ≡ Some e) × BearsEnd marks e.id)

-- behind the last of the hidden characters at the caret behind which a mark ends, if there is one, else at the caret
pub record IsInsertPlace (es : List Element) (marks : List Op) (caret place : ℕ) : Type 0 where
  pub from : caret ≤ place
  pub hidden : AreHidden es caret place
  pub bears : (place ≡ caret) ⊎ EndsBefore es marks place
  pub last : (i : ℕ) (e : Element) → place ≤ i → AreHidden es caret (i + 1) → slice_get es i ≡ Some e
      → BearsEnd marks e.id → ⊥

-- so many characters, hidden ones too, stand up to this one; none up to the start
abbrev pub CaretAt : List Element → Option OpId → ℕ → Type 0
CaretAt es None place = place ≡ 0
CaretAt es (Some id) place = (i : ℕ) × IsAt es id i × (place ≡ i + 1)

-- the character isn't in the text
abbrev pub IsUnknown : List Element → Option OpId → Type 0
IsUnknown es None = ⊥
IsUnknown es (Some id) = HasId es id → ⊥

-- the character behind which a writer inserts, by the one behind which the caret stands; that one itself, where it
-- isn't in the text
pub data IsParent (es : List Element) (marks : List Op) (caret parent : Option OpId) : Type 0 where
  placed : (before place : ℕ) → CaretAt es caret before → IsInsertPlace es marks before place → CaretAt es parent place
      → IsParent es marks caret parent
  unknown : IsUnknown es caret → parent ≡ caret → IsParent es marks caret parent
