-- Which machine states bear marks: there are values that the origins name so that each mark is true.
use Rattle.std.specs.Prelude.{◌≡◌, ◌<◌, ◌^◌, ◌*◌, ℕ, Some, None, slice_index_or}
use Rattle.semantics.specs.State.{State}
use Rattle.abstract_state.specs.State.{bytes_of, HasNumber}
use Rattle.value_marks.specs.declared.mark.Mark.{Mark}
use Rattle.value_marks.specs.Mark.{AgreesAt}
use Rattle.value_marks.specs.Marking.{Marking}

-- a register, or a slot of the stack, holds a number
abbrev pub InRegister : State → ℕ → ℕ → Type 0
InRegister s i n = slice_index_or s.registers i None ≡ Some n

abbrev pub InSlot : State → ℕ → ℕ → Type 0
InSlot s i n = (n < 2 ^ 64) × HasNumber (bytes_of s.stack) (8 * i) n

pub record BearsBy (origins : ℕ → ℕ) (w : Marking) (s : State) : Type 0 where
  pub registers : (i : ℕ) → i < 11 → AgreesAt origins (w.registers i) (InRegister s i)
  pub slots : (i : ℕ) → i < 64 → AgreesAt origins (w.slots i) (InSlot s i)

abbrev pub Bears : Marking → State → Type 0
Bears w s = (origins : ℕ → ℕ) × BearsBy origins w s

-- ---- the origins are slots below one
pub record AreBelow (slot : ℕ) (w : Marking) : Type 0 where
  pub registers : (i : ℕ) (m : Mark) → w.registers i ≡ Some m → m.origin < slot
  pub slots : (i : ℕ) (m : Mark) → w.slots i ≡ Some m → m.origin < slot
