-- What comes next, by the line that came.
use Rattle.std.proofs.Common.{◌≡◌, ℕ, true, false, List, Option, Result, Ok, Err, IfOk, refl, subst}
use Rattle.std.specs.Io.KnownBytes.{Consumes}
use Rattle.session_lines.specs.Lines.{LineReader, Arrives}
use Rattle.session_lines.specs.Commands.{IsAsked}
use Rattle.session_lines.specs.Changes.{is_header}
use Rattle.session_lines.specs.Foreign.{is_foreign}
use Rattle.session_lines.specs.Requests.{answered, unended_as, IsNext, command, unended, foreign, long_line, ended, GoesOn}
use Rattle.session_lines.specs.declared.reader.Arrival.TheVariants as arrival
use Rattle.session_lines.specs.declared.request.SessionRequest.{SessionRequest}
use Rattle.session_lines.specs.declared.request.Next.{Next}
use Rattle.session_lines.specs.declared.request.Next.TheVariants.{TooLong, Foreign, End}
use Rattle.session_lines.specs.declared.fault.LineRefusal.{LineRefusal}

pub next_command : (old : Option (List ℕ)) (at : LineReader) (what : Next) (answer : Result SessionRequest LineRefusal) → Arrives old arrival.Whole at → is_foreign at.line ≡ false → is_header at.line ≡ false
    → IsAsked at.line answer → what ≡ answered answer → IsNext old what at.left
next_command old at what answer a own plain asked is = command at.line answer a.shape.0 own plain (subst (Consumes old at.left) a.shape.1 a.front) asked is

pub next_change : (old : Option (List ℕ)) (at : LineReader) (what : Next) (new : Option (List ℕ)) → Arrives old arrival.Whole at → is_foreign at.line ≡ false → is_header at.line ≡ true
    → GoesOn at.line at.left what new → IsNext old what new
next_change old at what new a own starts goes = goes old a.shape.0 own starts (subst (Consumes old at.left) a.shape.1 a.front)

pub next_foreign : (old : Option (List ℕ)) (at : LineReader) → Arrives old arrival.Whole at → is_foreign at.line ≡ true → IsNext old Foreign at.left
next_foreign old at a other = foreign at.line a.shape.0 other (subst (Consumes old at.left) a.shape.1 a.front) refl

pub next_unended : (old : Option (List ℕ)) (at : LineReader) (what : Next) → Arrives old arrival.Unended at → what ≡ unended_as at.line → IsNext old what at.left
next_unended old at what a e = unended at.line a.shape.0 a.shape.1 (subst (Consumes old at.left) a.shape.2 a.front) a.shape.3 e

pub next_long : (old : Option (List ℕ)) (at : LineReader) → Arrives old arrival.TooLong at → IsNext old TooLong at.left
next_long old at a = long_line a.taken a.shape a.front refl

pub next_end : (old : Option (List ℕ)) (at : LineReader) → Arrives old arrival.End at → IsNext old End at.left
next_end old at a = ended (subst (Consumes old at.left) a.shape.0 a.front) a.shape.1 refl

-- the same, where it may fail
pub next_mapped : {E : Type 0} (old : Option (List ℕ)) (at : LineReader) (new : Option (List ℕ)) (result : Result Next E) → Arrives old arrival.Whole at → is_foreign at.line ≡ false → is_header at.line ≡ true
    → IfOk result (λ what. GoesOn at.line at.left what new) → IfOk result (λ what. IsNext old what new)
next_mapped old at new (Ok what) a own starts goes = next_change old at what new a own starts goes
next_mapped old at new (Err e) a own starts goes = tt
