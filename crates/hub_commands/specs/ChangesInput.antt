-- What is kept of an input of changes, while it is read and at its end.
use Rattle.std.specs.Prelude.{◌≡◌, ◌≢◌, ℕ, List, [], ◌++◌, take, Option, Some, None}
use Rattle.std.specs.Str.{IsUtf8}
use Rattle.change_ops.specs.Changes.{Change}
use Rattle.change_ops.specs.declared.size.Size.{Size}
use Rattle.hub_commands.specs.SpansReply.{Begins, IsStopped, Stops}
use Rattle.refusals.specs.declared.reason.ChangeReason.{ChangeReason}
use Rattle.refusals.specs.declared.reason.Reason.TheVariants.{TextRefused}
use Rattle.hub_commands.specs.Answers.{Answer}
use Rattle.hub_commands.specs.Reasons.{refusal, change_refusal}
use Rattle.hub_commands.specs.declared.changes_input.Fault.{Fault}
use Rattle.hub_commands.specs.declared.changes_input.Fault.TheVariants.{NotText, Change as BadChange}
use Rattle.hub_commands.specs.declared.changes_input.ChangesInput.{ChangesInput}

-- the bytes before what is left are UTF-8
pub record IsTextUpTo (input left : List ℕ) : Type 0 where
  pub before : List ℕ
  pub whole : input ≡ before ++ left
  pub text : IsUtf8 before

-- Changes at the front of a text were accepted at the size after the old ones; the rest follows them, whatever stands
-- behind the text.
pub record Advances (size : Size) (old : List Change) (text : List ℕ) (new : List Change)
    (rest : List ℕ) : Type 0 where
  pub taken : IsTextUpTo text rest
  pub follows : (input behind : List ℕ) → Begins size input old (text ++ behind)
      → Begins size input new (rest ++ behind)

-- all of a text was accepted, or a change in it is refused
abbrev pub EndsWith : Size → List Change → List ℕ → Option ChangeReason → Type 0
EndsWith size changes rest None = rest ≡ []
EndsWith size changes rest (Some reason) = (rest ≢ []) × IsStopped size changes rest reason

-- the changes of whole lines were accepted up to the rest, or one is refused, whatever stands behind the lines
abbrev pub TakesLines : Size → List Change → List ℕ → List Change → List ℕ → Option ChangeReason → Type 0
TakesLines size old lines new rest None = Advances size old lines new rest
TakesLines size old lines new rest (Some reason) =
    (rest ≡ []) × ((input behind : List ℕ) → Begins size input old (lines ++ behind) → Stops size input reason)

-- what the bytes that were read say of the input, whatever follows them
abbrev pub Holds : Size → List ℕ → List Change → List ℕ → Option Fault → Type 0
Holds size input changes left None = IsTextUpTo input left × Begins size input changes left
Holds size input changes left (Some NotText) = (more : List ℕ) → ¬ (IsUtf8 (input ++ more))
Holds size input changes left (Some (BadChange reason)) =
    IsTextUpTo input left × ((more : List ℕ) → Stops size (input ++ more) reason)

-- these bytes were read, for a document of the size
pub record IsChangesInput (size : Size) (input : List ℕ) (kept : ChangesInput) : Type 0 where
  pub of : kept.history.size ≡ size
  pub front : kept.front.items ≡ take 3 input
  pub held : Holds kept.history.size input kept.history.changes kept.left.items kept.fault

-- what a whole input is
abbrev pub Concludes : Size → List ℕ → List Change → Option Fault → Type 0
Concludes size input changes None = Begins size input changes []
Concludes size input changes (Some NotText) = ¬ (IsUtf8 input)
Concludes size input changes (Some (BadChange reason)) = IsUtf8 input × Stops size input reason

-- these bytes are the whole input, for a document of the size
pub record IsWholeInput (size : Size) (input : List ℕ) (kept : ChangesInput) : Type 0 where
  pub front : kept.front.items ≡ take 3 input
  pub concluded : Concludes size input kept.history.changes kept.fault

-- the reply to an input with a fault
abbrev pub fault_reply : Fault → Answer
fault_reply NotText = refusal TextRefused
fault_reply (BadChange reason) = change_refusal reason
