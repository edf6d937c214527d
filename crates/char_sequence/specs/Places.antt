-- Where a new character goes among the elements.
use Rattle.std.specs.Prelude.{◌≡◌, ℕ, ◌+◌, ◌<◌, ◌≤◌, List, Option, Some, None, ◌⊎◌, slice_get}
use Rattle.change_ops.specs.declared.id.OpId.{OpId}
use Rattle.change_ops.specs.declared.operation.Op.{Op}
use Rattle.char_sequence.specs.declared.sequence.Element.{Element}
use Rattle.change_ops.specs.Ids.{Less}
use Rattle.char_sequence.specs.Order.{Before, IsAt}

-- the places from this one on are those after the parent
pub record IsStart (ops : List Op) (es : List Element) (p : Option OpId) (start : ℕ) : Type 0 where
  pub after : (i : ℕ) (y : Element) → start ≤ i → slice_get es i ≡ Some y → Before ops p y.id
  pub upto : (i : ℕ) (x : Element) → i < start → slice_get es i ≡ Some x
      → (m : OpId) × (p ≡ Some m) × ((x.id ≡ m) ⊎ Before ops (Some x.id) m)

-- the places from the parent's on that hold greater ids, up to the first that does not
pub record IsPast (es : List Element) (e : OpId) (start k : ℕ) : Type 0 where
  pub low : start ≤ k
  pub skipped : (i : ℕ) (x : Element) → start ≤ i → i < k → slice_get es i ≡ Some x → Less e x.id
  pub stops : (x : Element) → slice_get es k ≡ Some x → Less e x.id → ⊥

-- the first place from this one on whose id is not greater
pub record IsNext (es : List Element) (e : OpId) (start k : ℕ) : Type 0 where
  pub low : start ≤ k
  pub at : (x : Element) × (slice_get es k ≡ Some x) × (Less e x.id → ⊥)
  pub skipped : (i : ℕ) (x : Element) → start ≤ i → i < k → slice_get es i ≡ Some x → Less e x.id

-- the place after the parent, or the start
abbrev pub IsAfter : List Element → Option OpId → ℕ → Type 0
IsAfter es None start = start ≡ 0
IsAfter es (Some m) start = (k : ℕ) × IsAt es m k × (start ≡ k + 1)
