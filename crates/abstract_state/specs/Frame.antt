-- What the slots of the stack hold, for loads and stores in it that are never refused.
use Rattle.std.specs.Prelude.{◌≡◌, ◌≢◌, ℕ, ◌+◌, ◌*◌, ◌/◌, ◌%◌, ◌^◌, ◌<◌, ◌≤◌, List}
use Rattle.abstract_state.specs.declared.known.Known.{Known}
use Rattle.abstract_state.specs.declared.known.Known.TheVariants.{Number, Context, Stack, Lent}
use Rattle.abstract_state.specs.declared.slot.Slot.{Slot}
use Rattle.abstract_state.specs.declared.slot.Slot.TheVariants.{Spilled}
use Rattle.abstract_state.specs.declared.state.AbsReg.{AbsReg}
use Rattle.abstract_state.specs.declared.state.AbsReg.TheVariants.{Unset, Set}
use Rattle.abstract_state.specs.State.{slot_at}
use Rattle.abstract_state.specs.Kinds.{IsMarked}

-- an address in the stack that, with the offset, is that of byte p
abbrev pub IsStackByte : ℕ → ℕ → AbsReg → Type 0
IsStackByte p offset Unset = ⊥
IsStackByte p offset (Set (Number q)) = ⊥
IsStackByte p offset (Set (Context q)) = ⊥
IsStackByte p offset (Set (Stack q)) = (q.offset + offset) % 2 ^ 64 ≡ p
IsStackByte p offset (Set (Lent q)) = ⊥

-- byte p is set for sure
abbrev pub IsMarkedAt : List Slot → ℕ → Type 0
IsMarkedAt slots p = IsMarked (slot_at slots (p / 8)) (p % 8)

-- the count bytes from p on lie in the stack and are set for sure
pub record AreMarked (slots : List Slot) (p count : ℕ) : Type 0 where
  pub within : p + count ≤ 512
  pub marked : (j : ℕ) → j < count → IsMarkedAt slots (p + j)

-- slot i after a store of count bytes of a number from p on: outside it is as it was, the bytes are set, and none is
-- unset
pub record StoresSlot (p count i : ℕ) (a b : Slot) : Type 0 where
  pub before : 8 * i + 8 ≤ p → b ≡ a
  pub behind : p + count ≤ 8 * i → b ≡ a
  pub kept : (j : ℕ) → j < 8 → IsMarked a j → IsMarked b j
  pub set : (j : ℕ) → j < 8 → p ≤ 8 * i + j → 8 * i + j < p + count → IsMarked b j

abbrev pub StoresSlots : ℕ → ℕ → List Slot → List Slot → Type 0
StoresSlots p count a b = (i : ℕ) → i < 64 → StoresSlot p count i (slot_at a i) (slot_at b i)

-- slot i holds what is known of the number that is stored in it, and each other slot is as it was
pub record SpillsSlot (i : ℕ) (known : Known) (a b : List Slot) : Type 0 where
  pub there : slot_at b i ≡ Spilled known
  pub others : (k : ℕ) → k ≢ i → slot_at b k ≡ slot_at a k
