-- What is known of a change that was kept, or was not.
use Rattle.std.specs.Prelude.{◌≡◌, ℕ, ◌+◌, Bool, true, List, Option, None, Some, Result, Ok, Err, ⊤, map, take}
use Rattle.std.specs.Prelude.{slice_get, IsTrue, IsFalse}
use Rattle.change_ops.specs.Changes.{Change}
use Rattle.change_ops.specs.declared.size.Size.{Size}
use Rattle.change_ops.specs.Spelling.{change_text}
use Rattle.change_history.specs.Accepted.{AreAccepted, IsRefused}
use Rattle.change_history.specs.declared.refusal.SubmitError.{SubmitError}
use Rattle.change_history.specs.declared.refusal.SubmitError.TheVariants as submit
use Rattle.stored_history.specs.Texts.{IsTextOf}
use Rattle.change_keeping.specs.declared.keeper.KeepError.{KeepError}
use Rattle.change_keeping.specs.declared.keeper.KeepError.TheVariants.{Refused, Failed}

-- at which size changes are kept, and what their texts meet
pub record Kept : Type 1 where
  pub size : Size
  pub texts : List (List ℕ) → Type 0

-- where nothing is kept, nothing is said of texts
abbrev pub none_kept : Size → Kept
none_kept size = record { size = size; texts = λ _. ⊤ }

-- some log keeps them
abbrev pub some_log : {L : Type 0} → Size → (L → List (List ℕ) → Type 0) → Kept
some_log {L} size kept = record { size = size; texts = λ texts. (log : L) × kept log texts }

-- changes of which each was accepted after those before it, and whose texts are kept
pub record AreStored (kept : Kept) (changes : List Change) : Type 0 where
  pub accepted : AreAccepted kept.size changes
  pub texts : kept.texts (map change_text changes)

-- the text of this number, counted from 1, among those that are kept
pub record IsStored (kept : Kept) (number : ℕ) (text : List ℕ) : Type 0 where
  pub changes : List Change
  pub stored : AreStored kept changes
  pub index : ℕ
  pub numbered : number ≡ index + 1
  pub here : slice_get (map change_text changes) index ≡ Some text

-- the text's change is refused after some of those that are kept
pub record IsTurnedDown (kept : Kept) (text : List ℕ) (error : SubmitError) : Type 0 where
  pub changes : List Change
  pub stored : AreStored kept changes
  pub count : ℕ
  pub change : Change
  pub spelled : IsTextOf text change
  pub refused : IsRefused kept.size (take count changes) change error

-- why a text is not kept; for want of memory it may not have been looked at
abbrev pub IsUnkept : Kept → List ℕ → SubmitError → Type 0
IsUnkept kept text submit.OutOfMemory = ⊤
IsUnkept kept text error = IsTurnedDown kept text error

-- what is told of a text: its number, or why it isn't kept
abbrev pub IsToldOf : Kept → List ℕ → Result ℕ SubmitError → Type 0
IsToldOf kept text (Ok number) = IsStored kept number text
IsToldOf kept text (Err error) = IsUnkept kept text error

-- a text, and what is told of it
pub record Told : Type 0 where
  pub text : List ℕ
  pub answer : Result ℕ SubmitError

-- the answer of what keeps changes, or of what keeps none
abbrev pub IsKeptAs : Kept → Bool → Change → Option ℕ → Type 0
IsKeptAs kept stores change (Some number) = IsTrue stores × IsStored kept number (change_text change)
IsKeptAs kept stores change None = IsFalse stores

-- why a text is not kept, or that it isn't known
abbrev pub IsErrorOf : Kept → List ℕ → KeepError → Type 0
IsErrorOf kept text (Refused error) = IsUnkept kept text error
IsErrorOf kept text Failed = ⊤

-- why a change is not kept
abbrev pub IsNotKept : Kept → Bool → Change → KeepError → Type 0
IsNotKept kept stores change error = IsTrue stores × IsErrorOf kept (change_text change) error
