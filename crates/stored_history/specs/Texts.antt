-- Texts of changes that are accepted one after another, and which text is the first at fault.
use Rattle.std.specs.Prelude.{◌≡◌, ℕ, ◌+◌, List, [], ◌∷◌, ◌++◌, length, map, take, slice_get, Some}
use Rattle.std.specs.List.{AllByRecursion}
use Rattle.change_ops.specs.Changes.{Change, IsChange}
use Rattle.change_ops.specs.declared.size.Size.{Size}
use Rattle.change_ops.specs.Spelling.{change_text}
use Rattle.change_history.specs.Accepted.{IsAccepted, AreAccepted}
use Rattle.change_history.specs.declared.refusal.SubmitError.{SubmitError}
use Rattle.change_history.specs.declared.refusal.SubmitError.TheVariants.{HistoryFull, Refused}
use Rattle.change_history.specs.declared.refusal.SubmitError.TheVariants as submit
use Rattle.stored_history.specs.declared.error.OpenError.{OpenError}
use Rattle.stored_history.specs.declared.error.OpenError.TheVariants.{LogFailed, Damaged, OutOfMemory}

-- the text is the one spelling of this change
abbrev pub IsTextOf : List ℕ → Change → Type 0
IsTextOf text change = IsChange change × (text ≡ change_text change)

-- the same, and of no other
abbrev pub IsOnlyTextOf : List ℕ → Change → Type 0
IsOnlyTextOf text change = IsTextOf text change × ((other : Change) → IsTextOf text other → other ≡ change)

-- these texts are those of the changes, of which each is accepted, at this size, after those before it
pub record AreTextsOf (size : Size) (texts : List (List ℕ)) (changes : List Change) : Type 0 where
  pub spelled : texts ≡ map change_text changes
  pub valid : AllByRecursion IsChange changes
  pub accepted : AreAccepted size changes

-- the text is of a change that is accepted after these, and they are then these
pub record FollowsBy (size : Size) (text : List ℕ) (old new : List Change) : Type 0 where
  pub change : Change
  pub spelled : IsTextOf text change
  pub accepted : IsAccepted size old change
  pub grown : new ≡ old ++ change ∷ []

-- the text is not that of a change that is accepted after these
abbrev pub IsAtFault : Size → List Change → List ℕ → Type 0
IsAtFault size before text = (change : Change) → IsTextOf text change → IsAccepted size before change → ⊥

-- the first text at fault has this number, counted from 1
pub record IsFirstAtFault (size : Size) (texts : List (List ℕ)) (number : ℕ) : Type 0 where
  pub before : List Change
  pub text : List ℕ
  pub spelled : AreTextsOf size (take (length before) texts) before
  pub here : slice_get texts (length before) ≡ Some text
  pub fault : IsAtFault size before text
  pub numbered : number ≡ length before + 1

-- why a text of this number isn't read: it is of no change; want of memory is no fault of it
abbrev pub IsNoText : List ℕ → ℕ → OpenError → Type 0
IsNoText text number LogFailed = ⊥
IsNoText text number (Damaged at) = (at ≡ number) × ((change : Change) → IsTextOf text change → ⊥)
IsNoText text number OutOfMemory = Unit {0}

-- why a text of this number isn't accepted after these
abbrev pub IsFaultOf : Size → List Change → List ℕ → ℕ → OpenError → Type 0
IsFaultOf size before text number LogFailed = ⊥
IsFaultOf size before text number (Damaged at) = (at ≡ number) × IsAtFault size before text
IsFaultOf size before text number OutOfMemory = Unit {0}

-- why texts are not accepted, one after another
abbrev pub IsNotRead : Size → List (List ℕ) → OpenError → Type 0
IsNotRead size texts LogFailed = ⊥
IsNotRead size texts (Damaged number) = IsFirstAtFault size texts number
IsNotRead size texts OutOfMemory = Unit {0}

-- the error of a text whose change is refused
abbrev pub text_error : ℕ → SubmitError → OpenError
text_error number HistoryFull = Damaged number
text_error number (Refused index refusal) = Damaged number
text_error number submit.OutOfMemory = OutOfMemory

-- why a log isn't opened: where a text is at fault, it is the first at fault of texts that the log keeps
abbrev pub IsNotOpened : {L : Type 0} → Size → (L → List (List ℕ) → Type 0) → L → OpenError → Type 0
IsNotOpened size kept log LogFailed = Unit {0}
IsNotOpened size kept log (Damaged number) =
    (texts : List (List ℕ)) × kept log texts × IsFirstAtFault size texts number
IsNotOpened size kept log OutOfMemory = Unit {0}

-- and the log then keeps these texts
abbrev pub StillKeeps : {L : Type 0} → (L → List (List ℕ) → Type 0) → L → List (List ℕ) → OpenError → Type 0
StillKeeps kept log texts LogFailed = Unit {0}
StillKeeps kept log texts (Damaged number) = kept log texts
StillKeeps kept log texts OutOfMemory = Unit {0}
