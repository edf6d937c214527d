-- Which operations and changes are accepted after others, and the first refusal (Peritext, CSCW 2022: an operation
-- is applied once those that it depends on are there).
use Rattle.std.specs.Prelude.{◌≡◌, ℕ, ◌+◌, ◌≤◌, ◌<◌, true, List, [], ◌∷◌, ◌++◌, length, take, slice_get, count_by, Some}
use Rattle.change_ops.specs.declared.operation.Op.{Op}
use Rattle.change_ops.specs.Operations.{is_mark}
use Rattle.change_ops.specs.Changes.{Change, operations}
use Rattle.change_ops.specs.Lines.{ops_of, ops_of_lines}
use Rattle.change_ops.specs.declared.line.Line.{Line}
use Rattle.change_ops.specs.declared.size.Size.{Size}
use Rattle.change_ops.specs.Sizes.{most_marks, most_changes}
use Rattle.char_sequence.specs.Acceptance.{Accepts, IsStale, IsUnknown, IsFull}
use Rattle.change_history.specs.declared.refusal.Refusal.{Refusal}
use Rattle.change_history.specs.declared.refusal.Refusal.TheVariants.{StaleCounter, UnknownRef, DocumentFull, MarksFull}
use Rattle.change_history.specs.declared.refusal.SubmitError.{SubmitError}
use Rattle.change_history.specs.declared.refusal.SubmitError.TheVariants.{HistoryFull, Refused, OutOfMemory}

-- a mark operation after as many as the size allows
abbrev pub IsMarkTooMany : Size → List Op → Op → Type 0
IsMarkTooMany size ops op = (is_mark op ≡ true) × (most_marks size ≤ count_by is_mark ops)

-- the operation is accepted after these
pub record MayFollow (size : Size) (ops : List Op) (op : Op) : Type 0 where
  pub accepted : Accepts size ops op
  pub room : IsMarkTooMany size ops op → ⊥

-- why it is not: the first that applies
abbrev pub MayNotFollow : Size → List Op → Op → Refusal → Type 0
MayNotFollow size ops op StaleCounter = IsStale ops op
MayNotFollow size ops op UnknownRef = (IsStale ops op → ⊥) × IsUnknown ops op
MayNotFollow size ops op DocumentFull = (IsStale ops op → ⊥) × (IsUnknown ops op → ⊥) × IsFull size ops op
MayNotFollow size ops op MarksFull =
    (IsStale ops op → ⊥) × (IsUnknown ops op → ⊥) × (IsFull size ops op → ⊥) × IsMarkTooMany size ops op

-- the operations of changes, one after the other
unfoldable pub operations_of : List Change → List Op
operations_of [] = []
operations_of (change ∷ changes) = operations change ++ operations_of changes

-- each of the first operations of several is accepted after the ones before it
abbrev pub AllFollow : Size → List Op → List Op → ℕ → Type 0
AllFollow size ops added count =
    (i : ℕ) (op : Op) → i < count → slice_get added i ≡ Some op → MayFollow size (ops ++ take i added) op

-- the first operation that is refused, by its index among them
pub record IsFirstRefused (size : Size) (ops added : List Op) (index : ℕ) (refusal : Refusal) : Type 0 where
  pub operation : Op
  pub here : slice_get added index ≡ Some operation
  pub refused : MayNotFollow size (ops ++ take index added) operation refusal
  pub before : AllFollow size ops added index

-- the same, by the index of the line that means it
pub record FirstRefused (size : Size) (ops : List Op) (lines : List Line) (index : ℕ)
    (refusal : Refusal) : Type 0 where
  pub line : Line
  pub here : slice_get lines index ≡ Some line
  pub offset : ℕ
  pub within : offset < length (ops_of line)
  pub first : IsFirstRefused size ops (ops_of_lines lines) (length (ops_of_lines (take index lines)) + offset) refusal

-- the change is accepted after these, of which there may be as many as the size allows in all
pub record IsAccepted (size : Size) (changes : List Change) (change : Change) : Type 0 where
  pub room : length changes < most_changes size
  pub follow : AllFollow size (operations_of changes) (operations change) (length (operations change))

-- why a change is refused after these; want of memory is no fault of a change, but a full history is told as such
abbrev pub IsRefused : Size → List Change → Change → SubmitError → Type 0
IsRefused size changes change HistoryFull = most_changes size ≤ length changes
IsRefused size changes change (Refused index refusal) =
    (length changes < most_changes size) × FirstRefused size (operations_of changes) change.lines index refusal
IsRefused size changes change OutOfMemory = length changes < most_changes size

-- each of the changes was accepted after those before it
abbrev pub AreAccepted : Size → List Change → Type 0
AreAccepted size changes =
    (n : ℕ) (change : Change) → slice_get changes n ≡ Some change → IsAccepted size (take n changes) change
