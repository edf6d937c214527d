-- What a call keeps comes back as it was, unless the callee writes to the cells (RFC 9669, section 4.3.2).
use Rattle.std.specs.Prelude.{◌≡◌, ◌⊎◌, ℕ, ◌+◌, ◌-◌, ◌*◌, ◌^◌, ◌<◌, ◌≤◌, List, [], ◌∷◌, length, slice_index_or}
use Rattle.std.specs.Prelude.{slice_set, Option, Some, None, Ok}
use Rattle.std.specs.Result.{result_ok}
use Rattle.span_context.specs.Context.{frame_end, SpanBytes}
use Rattle.semantics.specs.State.{State, register_of}
use Rattle.semantics.specs.Memory.{stack_number, stored}
use Rattle.inlined_calls.specs.Calls.{Ended, saves, restores, perform_all}

-- where the cell under so many bytes begins among the 512 of the stack
abbrev pub cell_under : ℕ → ℕ
cell_under depth = 512 - (depth + 8)

-- the cell under so many bytes holds what a register holds in a state
abbrev pub HoldsCell : ℕ → ℕ → State → List (Option ℕ) → Type 0
HoldsCell depth register before stack =
    (value : ℕ) × (register_of before register ≡ Ok value) × (stack_number stack (cell_under depth) 8 ≡ Some value)

-- so the cells of some registers
abbrev pub CellsHold : ℕ → List ℕ → State → List (Option ℕ) → Type 0
CellsHold depth [] before stack = Unit {0}
CellsHold depth (register ∷ rest) before stack =
    HoldsCell depth register before stack × CellsHold (depth + 8) rest before stack

-- registers as they were, and all else as it is
abbrev pub as_before : List ℕ → State → State → State
as_before [] before after = after
as_before (register ∷ rest) before after =
    as_before rest before
    (record after { registers = slice_set after.registers register (result_ok (register_of before register)) })

-- registers that are set, each to a number of 64 bits
abbrev pub AreSet : List ℕ → State → Type 0
AreSet [] state = Unit {0}
AreSet (register ∷ rest) state =
    ((value : ℕ) × (register_of state register ≡ Ok value) × (value < 2 ^ 64)) × AreSet rest state

-- none of them is r10
abbrev pub AreBelow : List ℕ → Type 0
AreBelow [] = Unit {0}
AreBelow (register ∷ rest) = (register < 10) × AreBelow rest

-- a state as runs have it: r10 is the end of the stack, which has 512 bytes
pub record IsWhole (state : State) : Type 0 where
  pub frame : register_of state 10 ≡ Ok frame_end
  pub long : length state.stack ≡ 512

-- keeping registers meets no fault and changes nothing but the stack, where the cells then hold them
pub record Keeps (bytes : SpanBytes) (depth : ℕ) (registers : List ℕ) (before : State) : Type 0 where
  pub stack : List (Option ℕ)
  pub long : length stack ≡ 512
  pub above : (index : ℕ) → 512 - depth ≤ index
      → slice_index_or stack index None ≡ slice_index_or before.stack index None
  pub cells : CellsHold depth registers before stack
  pub runs : (rest : State → Ended) → perform_all bytes (saves depth registers) before rest
      ≡ rest (record before { stack = stack })

abbrev pub CallKeeps : Type 0
CallKeeps =
    (bytes : SpanBytes) (depth : ℕ) (registers : List ℕ) (before : State) → IsWhole before
    → depth + 8 * length registers ≤ 512 → AreSet registers before → Keeps bytes depth registers before

-- a store elsewhere leaves the cells as they are
abbrev pub StoresLeave : Type 0
StoresLeave =
    (depth : ℕ) (registers : List ℕ) (before : State) (stack : List (Option ℕ)) (offset count value : ℕ)
    → length stack ≡ 512 → depth + 8 * length registers ≤ 512 → offset + count ≤ 512
    → (offset + count ≤ 512 - (depth + 8 * length registers)) ⊎ (512 - depth ≤ offset)
    → CellsHold depth registers before stack → CellsHold depth registers before (stored stack offset count value)

-- where the cells hold what registers held before, the registers come back as they were, and nothing else changes
abbrev pub ReturnBrings : Type 0
ReturnBrings =
    (bytes : SpanBytes) (depth : ℕ) (registers : List ℕ) (before after : State) (rest : State → Ended)
    → length bytes.context ≤ 72 → IsWhole after → depth + 8 * length registers ≤ 512 → AreBelow registers
    → CellsHold depth registers before after.stack
    → perform_all bytes (restores depth registers) after rest ≡ rest (as_before registers before after)
