-- What comes next of a session's input, by the lines that it takes.
use Rattle.std.specs.Prelude.{◌≡◌, ℕ, ◌<◌, ◌≤◌, ◌⊎◌, IsTrue, IsFalse, List, [], ◌∷◌, ◌++◌, length, All, Option, Result}
use Rattle.std.specs.Prelude.{Ok, Err, if◌then◌else◌}
use Rattle.std.specs.Io.KnownBytes.{Consumes}
use Rattle.change_ops.specs.Changes.{Change}
use Rattle.change_ops.specs.Refusals.{IsRefused}
use Rattle.change_ops.specs.Spelling.{Spells}
use Rattle.change_ops.specs.declared.refusal.ChangeError.{ChangeError}
use Rattle.change_ops.specs.declared.refusal.ChangeError.TheVariants as reading
use Rattle.session_lines.specs.Lines.{IsLine, IsRemainder, IsTooLong, IsOver, joined}
use Rattle.session_lines.specs.Commands.{IsAsked}
use Rattle.session_lines.specs.Foreign.{is_foreign}
use Rattle.session_lines.specs.Changes.{is_header, right_header, followers, text_of}
use Rattle.session_lines.specs.declared.request.SessionRequest.{SessionRequest}
use Rattle.session_lines.specs.declared.request.SessionRequest.TheVariants as asked
use Rattle.session_lines.specs.declared.request.Next.{Next}
use Rattle.session_lines.specs.declared.request.Next.TheVariants.{Request, Refused, TooLong, Foreign, End}
use Rattle.session_lines.specs.declared.fault.LineRefusal.{LineRefusal}
use Rattle.session_lines.specs.declared.fault.LineRefusal.TheVariants.{BadCommand, BadChange}

abbrev pub answered : Result SessionRequest LineRefusal → Next
answered (Ok request) = Request request
answered (Err refusal) = Refused refusal

abbrev pub changed : Result Change ChangeError → Next
changed (Ok change) = Request (asked.Change change)
changed (Err error) = Refused (BadChange error)

-- a text is read as the change that it begins with, or refused
abbrev pub IsRead : List ℕ → Result Change ChangeError → Type 0
IsRead text (Ok change) = (rest : List ℕ) × Spells text change rest
IsRead text (Err error) = (error ≡ reading.OutOfMemory) ⊎ IsRefused text error

-- a change's first line, which is of no other protocol, and lines that follow it
pub record ChangeLines (header : List ℕ) (others : List (List ℕ)) : Type 0 where
  pub own : IsFalse (is_foreign header)
  pub first : IsTrue (is_header header)
  pub are_lines : All IsLine (header ∷ others)

-- what a last line that has no LF is taken for
abbrev pub unended_as : List ℕ → Next
unended_as last = if is_foreign last then Foreign else
    Refused (if is_header last then BadChange reading.Truncated else BadCommand)

-- an input that had some bytes left, and now has others
pub data IsNext (old : Option (List ℕ)) (next : Next) (new : Option (List ℕ)) : Type 0 where
  -- a line that begins no change
  command : (line : List ℕ) (answer : Result SessionRequest LineRefusal) → IsLine line → IsFalse (is_foreign line)
      → IsFalse (is_header line) → Consumes old new (line ++ 10 ∷ []) → IsAsked line answer → next ≡ answered answer
      → IsNext old next new
  -- a change: its first line, and as many as follow that
  change : (header : List ℕ) (others : List (List ℕ)) (read : Result Change ChangeError) → ChangeLines header others
      → length others ≡ followers (right_header header) → Consumes old new (joined (header ∷ others))
      → IsRead (text_of (header ∷ others)) read → next ≡ changed read → IsNext old next new
  -- the input ends within a change
  cut : (header : List ℕ) (others : List (List ℕ)) (last : List ℕ) (read : Result Change ChangeError)
      → ChangeLines header others
      → length others < followers (right_header header) → IsRemainder last
      → Consumes old new (joined (header ∷ others) ++ last) → IsOver old new
      → IsRead (text_of (header ∷ others)) read → next ≡ changed read → IsNext old next new
  -- it ends with a line that has no LF
  unended : (last : List ℕ) → IsRemainder last → 1 ≤ length last → Consumes old new last → IsOver old new
      → next ≡ unended_as last → IsNext old next new
  -- a line of another protocol, whatever follows it
  foreign : (line : List ℕ) → IsLine line → IsTrue (is_foreign line) → Consumes old new (line ++ 10 ∷ [])
      → next ≡ Foreign → IsNext old next new
  -- a line of more than 70,000 bytes
  long_line : (last : List ℕ) → IsTooLong last → Consumes old new last → next ≡ TooLong → IsNext old next new
  -- one within a change
  long_within : (header : List ℕ) (others : List (List ℕ)) (last : List ℕ) → ChangeLines header others
      → length others < followers (right_header header) → IsTooLong last
      → Consumes old new (joined (header ∷ others) ++ last)
      → next ≡ TooLong → IsNext old next new
  -- nothing is left
  ended : Consumes old new [] → IsOver old new → next ≡ End → IsNext old next new

-- The next of an input that had these bytes left before its line, the first of a change.
abbrev pub GoesOn : List ℕ → Option (List ℕ) → Next → Option (List ℕ) → Type 0
GoesOn line left next new =
    (old : Option (List ℕ)) → IsLine line → IsFalse (is_foreign line) → IsTrue (is_header line)
    → Consumes old left (line ++ 10 ∷ []) → IsNext old next new
