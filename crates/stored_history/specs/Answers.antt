-- What is answered to changes that come together.
use Rattle.std.specs.Prelude.{◌≡◌, List, [], ◌∷◌, ◌++◌, length, Result, Ok, Err}
use Rattle.change_ops.specs.Changes.{Change}
use Rattle.change_ops.specs.declared.size.Size.{Size}
use Rattle.change_history.specs.Accepted.{IsAccepted, IsRefused}
use Rattle.change_history.specs.declared.refusal.SubmitError.{SubmitError}
use Rattle.stored_history.specs.declared.answer.Accepted.{Accepted}

-- the answer to a change after others: it is accepted, follows them, and has the next number; or it is refused, and
-- leaves them as they were
abbrev pub IsAnswered : Size → List Change → Change → Result Accepted SubmitError → List Change → Type 0
IsAnswered size old change (Ok accepted) new =
    IsAccepted size old change × (new ≡ old ++ change ∷ []) × (accepted.number ≡ length new)
    × (accepted.change ≡ change)
IsAnswered size old change (Err error) new = IsRefused size old change error × (new ≡ old)

-- an answer to each of several, after those before it
abbrev pub AreAnswered : Size → List Change → List Change → List (Result Accepted SubmitError) → List Change → Type 0
AreAnswered size old [] [] new = new ≡ old
AreAnswered size old [] (answer ∷ answers) new = ⊥
AreAnswered size old (change ∷ changes) [] new = ⊥
AreAnswered size old (change ∷ changes) (answer ∷ answers) new =
    (next : List Change) × IsAnswered size old change answer next × AreAnswered size next changes answers new
