-- Texts of one change and nothing more, and what ingesting one answers.
use Rattle.std.specs.Prelude.{◌≡◌, ◌⊎◌, ℕ, ◌+◌, Result, Ok, Err, List, [], length}
use Rattle.change_ops.specs.Changes.{Change}
use Rattle.change_ops.specs.declared.size.Size.{Size}
use Rattle.change_ops.specs.Spelling.{Spells}
use Rattle.change_ops.specs.Refusals.{IsRefused}
use Rattle.change_ops.specs.declared.refusal.ChangeError.{ChangeError}
use Rattle.change_ops.specs.declared.refusal.ChangeError.TheVariants.{BadLine, OutOfMemory}
use Rattle.ingest_workers.specs.declared.ingest.HubError.{HubError}
use Rattle.ingest_workers.specs.declared.ingest.HubError.TheVariants as fault
use Rattle.core_history.specs.Hubs.{Seen}
use Rattle.ingest_workers.specs.Holdings.{Ingests}

abbrev pub IsOneChange : List ℕ → Change → Type 0
IsOneChange text change = Spells text change []

-- a change, and a line after its last one
abbrev pub HasMore : List ℕ → ChangeError → Type 0
HasMore text e =
    (change : Change) × (rest : List ℕ) × Spells text change rest × (¬ (rest ≡ []))
    × (e ≡ BadLine (length change.lines + 2))

-- why it is not: it begins with no change, or has more than one. Want of memory is no fault of a text
abbrev pub IsNotOne : List ℕ → ChangeError → Type 0
IsNotOne text e = (e ≡ OutOfMemory) ⊎ IsRefused text e ⊎ HasMore text e

-- the text's change was submitted, as a call of the share, and its version's number answered; or the text isn't one
-- change's, which is no call; or the change was refused
abbrev pub IngestsText : Size → Seen → List ℕ → Result ℕ HubError → Seen
    → Type 0
IngestsText size v text (Ok number) w =
    (change : Change) × IsOneChange text change × Ingests size v change (Ok number) w
IngestsText size v text (Err (fault.Change e)) w = (w ≡ v) × IsNotOne text e
IngestsText size v text (Err (fault.Submit e)) w =
    (change : Change) × IsOneChange text change × Ingests size v change (Err e) w
