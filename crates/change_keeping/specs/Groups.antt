-- Texts that are kept together, and what is told of each.
use Rattle.std.specs.Prelude.{ℕ, List, [], ◌∷◌, Result, Ok, Err, ⊤}
use Rattle.change_ops.specs.Changes.{Change}
use Rattle.change_history.specs.declared.refusal.SubmitError.{SubmitError}
use Rattle.stored_history.specs.Texts.{IsTextOf}
use Rattle.stored_history.specs.declared.answer.Accepted.{Accepted}
use Rattle.change_keeping.specs.declared.keeper.KeepError.{KeepError}
use Rattle.change_keeping.specs.declared.keeper.KeepError.TheVariants.{Refused}
use Rattle.change_keeping.specs.Kept.{Kept, IsToldOf}

-- these texts are those of these changes, in the same order
abbrev pub AreSpelled : List (List ℕ) → List Change → Type 0
AreSpelled [] [] = ⊤
AreSpelled [] (change ∷ changes) = ⊥
AreSpelled (text ∷ texts) [] = ⊥
AreSpelled (text ∷ texts) (change ∷ changes) = IsTextOf text change × AreSpelled texts changes

-- what a session is told of a history's answer
abbrev pub told_of : Result Accepted SubmitError → Result ℕ SubmitError
told_of (Ok accepted) = Ok accepted.number
told_of (Err error) = Err error

-- what keeps the changes of one session answers of it
abbrev pub outcome_of : Result Accepted SubmitError → Result ℕ KeepError
outcome_of (Ok accepted) = Ok accepted.number
outcome_of (Err error) = Err (Refused error)

-- each text may be told its answer
abbrev pub AreTold : Kept → List (List ℕ) → List (Result Accepted SubmitError) → Type 0
AreTold kept [] [] = ⊤
AreTold kept [] (answer ∷ answers) = ⊥
AreTold kept (text ∷ texts) [] = ⊥
AreTold kept (text ∷ texts) (answer ∷ answers) = IsToldOf kept text (told_of answer) × AreTold kept texts answers
