-- What is kept of accepted operations, beside the operations themselves.
use Rattle.std.specs.Prelude.{◌≡◌, ℕ, zero, suc, ◌+◌, ◌-◌, List, ◌++◌, ◌∷◌, [], length, take, slice_get}
use Rattle.std.specs.Prelude.{Option, Some, Result, IfOk}
use Rattle.std.specs.List.{filter}
use Rattle.change_ops.specs.declared.id.OpId.{OpId}
use Rattle.change_ops.specs.declared.operation.Op.{Op}
use Rattle.change_ops.specs.Operations.{is_edit, is_mark}
use Rattle.char_sequence.specs.Order.{Shows}
use Rattle.char_sequence.specs.Held.{Holds}
use Rattle.char_sequence.specs.Newest.{IsNewest}
use Rattle.char_sequence.specs.RunElements.{later_id}
use Rattle.mark_places.specs.Places.{AreMarkPlaces}
use Rattle.change_ops.specs.Changes.{Change}
use Rattle.change_ops.specs.declared.size.Size.{Size}
use Rattle.change_ops.specs.declared.size.Size.TheVariants.{Large}
use Rattle.change_ops.specs.Lines.{ops_of_lines}
use Rattle.change_ops.specs.declared.line.Line.{Line}
use Rattle.change_history.specs.declared.parts.Parts.{Parts}
use Rattle.change_history.specs.declared.history.Draft.{Draft}
use Rattle.change_history.specs.Accepted.{AllFollow, FirstRefused, IsAccepted, AreAccepted, operations_of}
use Rattle.change_history.specs.declared.refusal.ApplyError.{ApplyError}
use Rattle.change_history.specs.declared.refusal.ApplyError.TheVariants as apply
use Rattle.change_history.specs.declared.refusal.SubmitError.{SubmitError}
use Rattle.change_history.specs.declared.refusal.SubmitError.TheVariants.{HistoryFull, Refused, OutOfMemory}

-- the sequence is that of all operations, and holds those that are edits; the marks are the others, with their places
-- in it, and the newest counters all peers'
pub record Keeps (ops : List Op) (parts : Parts) : Type 0 where
  pub shows : Shows parts.sequence.elements ops
  pub held : Holds parts.sequence (filter is_edit ops)
  pub marks : parts.marks ≡ filter is_mark ops
  pub places : AreMarkPlaces parts.sequence.elements parts.marks parts.places
  pub newest : IsNewest ops parts.newest

-- the operations stand among others, from this index on
abbrev pub StandAt : List Op → ℕ → List Op → Type 0
StandAt all from ops = (i : ℕ) (op : Op) → slice_get ops i ≡ Some op → slice_get all (from + i) ≡ Some op

-- what the character of a run at an index stands after
abbrev pub parent_at : OpId → Option OpId → ℕ → Option OpId
parent_at id parent zero = parent
parent_at id parent (suc index) = Some (later_id id index)

-- the error of a line as one of its change
abbrev pub error_at : ℕ → ApplyError → SubmitError
error_at index (apply.Refused refusal) = Refused index refusal
error_at index apply.OutOfMemory = OutOfMemory

-- the operations of lines are accepted, one after the other
abbrev pub AreAllAccepted : Size → List Op → List Line → Type 0
AreAllAccepted size ops lines = AllFollow size ops (ops_of_lines lines) (length (ops_of_lines lines))

-- why they are not: the first that is refused
abbrev pub IsNotAccepted : Size → List Op → List Line → SubmitError → Type 0
IsNotAccepted size ops lines HistoryFull = ⊥
IsNotAccepted size ops lines (Refused index refusal) = FirstRefused size ops lines index refusal
IsNotAccepted size ops lines OutOfMemory = Unit {0}

-- all of the operations are accepted at the large size, as those of any size are, and the first `count` are applied
pub record IsApplied (ops added : List Op) (count : ℕ) (parts : Parts) : Type 0 where
  pub follow : AllFollow Large ops added (length added)
  pub kept : Keeps (ops ++ take count added) parts

-- the operations are the next ones of several that are accepted
abbrev pub AreAcceptedNext : List Op → Parts → Type 0
AreAcceptedNext next parts =
    (ops : List Op) × ((added : List Op) × ((from : ℕ) × IsApplied ops added from parts × StandAt added from next))

-- they are applied, whatever stands before and behind them
abbrev pub Applies : {E : Type 0} → List Op → Parts → Parts → Result (Unit {0}) E → Type 0
Applies next old new result =
    (ops added : List Op) (from : ℕ) → IsApplied ops added from old → StandAt added from next
    → IfOk result (λ _. IsApplied ops added (from + length next) new)

-- the changes were accepted one after another, and these are the parts of their operations
pub record IsHistory (size : Size) (changes : List Change) (parts : Parts) : Type 0 where
  pub accepted : AreAccepted size changes
  pub kept : Keeps (operations_of changes) parts

-- spare parts are those of all changes but the last
abbrev pub IsSpare : List Change → Option Parts → Type 0
IsSpare changes spare =
    (parts : Parts) → spare ≡ Some parts → Keeps (operations_of (take (length changes - 1) changes)) parts

-- the last of the changes, none where there are none
abbrev pub IsLast : List Change → Option Change → Type 0
IsLast changes last = last ≡ slice_get changes (length changes - 1)

-- the changes are accepted, and the parts are those of all but the last
pub record CanCatchUp (changes : List Change) (last : Option Change) (parts : Parts) : Type 0 where
  pub accepted : AreAccepted Large changes
  pub is : IsLast changes last
  pub kept : Keeps (operations_of (take (length changes - 1) changes)) parts

-- the draft is of this change, which is accepted after these, and has the parts of them all
pub record IsDraft (size : Size) (changes : List Change) (change : Change) (draft : Draft) : Type 0 where
  pub added : draft.added ≡ change ∷ []
  pub of : draft.change ≡ change
  pub accepted : IsAccepted size changes change
  pub kept : Keeps (operations_of (changes ++ change ∷ [])) draft.parts
