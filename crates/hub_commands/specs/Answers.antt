-- What a command answers: what it prints, and how it ends.
use Rattle.std.specs.Prelude.{ℕ, ◌≡◌, List, [], ◌∷◌, ◌++◌, codes, Option, IfSome}
use Rattle.std.specs.Io.KnownBytes.{Appends}
use Rattle.hub_commands.specs.declared.answer.Ending.{Ending}
use Rattle.hub_commands.specs.declared.answer.Ending.TheVariants.{Done, Failed}

-- what is printed, as UTF-8, and how the command ends
pub record Answer : Type 0 where
  pub ending : Ending
  pub text : List ℕ

-- the exit status
abbrev pub status_of : Ending → ℕ
status_of Done = 0
status_of Failed = 1

-- a line of its own
abbrev pub line : List ℕ → List ℕ
line text = text ++ 10 ∷ []

abbrev pub done : List ℕ → Answer
done text = record { ending = Done; text = text }

-- what stopped the command, in one line
abbrev pub failed : List ℕ → Answer
failed reason = record { ending = Failed; text = line reason }

-- a refusal, by its number and name and what stands behind them
abbrev pub refused : List ℕ → Answer
refused reason = failed (codes "refused " ++ reason)

-- a reply with further text before its own
abbrev pub behind : List ℕ → Answer → Answer
behind text reply = record reply { text = text ++ reply.text }

-- a writer that had these bytes has these, and this is the status, where a reply was written
pub record IsWritten (reply : Answer) (old new : Option (List ℕ)) (status : ℕ) : Type 0 where
  pub printed : Appends old new reply.text
  pub ended : status ≡ status_of reply.ending

-- an input that is known was answered by such a reply
abbrev pub IsAnswered : (List ℕ → Answer → Type 0) → Option (List ℕ) → Option (List ℕ) → Option (List ℕ) → ℕ → Type 0
IsAnswered IsReply input old new status =
    IfSome input (λ bytes. (reply : Answer) × IsReply bytes reply × IsWritten reply old new status)
