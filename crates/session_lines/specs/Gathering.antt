-- How the lines behind a change's first line are gathered.
use Rattle.std.specs.Prelude.{◌≡◌, ℕ, ◌<◌, Bool, true, false, List, [], ◌++◌, length, All, Option, Result}
use Rattle.std.specs.Io.KnownBytes.{Consumes}
use Rattle.change_ops.specs.Changes.{Change}
use Rattle.change_ops.specs.Refusals.{IsRefused}
use Rattle.change_ops.specs.declared.refusal.ChangeError.{ChangeError}
use Rattle.change_ops.specs.declared.refusal.ChangeError.TheVariants.{Truncated}
use Rattle.session_lines.specs.Requests.{IsRead}
use Rattle.session_lines.specs.Lines.{IsLine, IsRemainder, IsTooLong, IsOver, joined}
use Rattle.session_lines.specs.Changes.{text_of}
use Rattle.session_lines.specs.declared.request.Gathered.{Gathered}
use Rattle.session_lines.specs.declared.request.Gathered.TheVariants.{AllThere, Cut, TooLong}

-- `wanted` lines were wanted: these came, and then this
abbrev pub Ends : Gathered → ℕ → List (List ℕ) → List ℕ → Option (List ℕ) → Option (List ℕ) → Type 0
Ends AllThere wanted lines last old new = (length lines ≡ wanted) × (last ≡ [])
Ends Cut wanted lines last old new = (length lines < wanted) × IsRemainder last × IsOver old new
Ends TooLong wanted lines last old new = (length lines < wanted) × IsTooLong last

-- what the text is read as doesn't wait for further lines
abbrev pub IsSettled : List ℕ → Type 0
IsSettled text = IsRefused text Truncated → ⊥

-- a line is kept behind the text, which may settle what is read; or that was settled already, and the line isn't kept
abbrev pub KeepsLine : Bool → List ℕ → List ℕ → Bool → List ℕ → Type 0
KeepsLine true text line settled text' = (settled ≡ true) × (text' ≡ text)
KeepsLine false text line settled text' = (text' ≡ text ++ line) × (settled ≡ true → IsSettled text')

-- whatever the first text is read as, the second one is
abbrev pub IsReadAs : List ℕ → List ℕ → Type 0
IsReadAs text whole = (read : Result Change ChangeError) → IsRead text read → IsRead whole read

-- an input had these bytes left, and the change a text that is read as this one
pub record Gathers (wanted : ℕ) (old : Option (List ℕ)) (had : List ℕ) (gathered : Gathered) (new : Option (List ℕ))
    (text : List ℕ) : Type 0 where
  pub lines : List (List ℕ)
  pub last : List ℕ
  pub are_lines : All IsLine lines
  pub front : Consumes old new (joined lines ++ last)
  pub read : IsReadAs text (had ++ text_of lines)
  pub ends : Ends gathered wanted lines last old new
