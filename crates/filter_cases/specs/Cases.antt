-- Cases as a person writes them, a line each:
--     "an URGENT note" -> 4
--     "see this" strong link=https://example.org/ color=ff0000 comments=2 -> hit
-- Empty lines and lines that begin with # are left out.
use Rattle.std.specs.Prelude.{◌≡◌, ◌≢◌, ℕ, ◌+◌, ◌≤◌, ◌==◌, Bool, true, false, List, [], ◌∷◌, ◌++◌, length, unwrap_or}
use Rattle.std.specs.Str.{IsUtf8}
use Rattle.change_ops.specs.Words.{split}
use Rattle.filter_cases.specs.declared.marks.Marks.{Marks}
use Rattle.filter_cases.specs.declared.wanted.Wanted.{Wanted}
use Rattle.filter_cases.specs.Escapes.{Quoted}
use Rattle.filter_cases.specs.Marks.{plain}
use Rattle.filter_cases.specs.Said.{Says}

-- the number of its line, from 1, its span, and the verdict that is wanted
pub record Case : Type 0 where
  pub line : ℕ
  pub text : List ℕ
  pub marks : Marks
  pub wanted : Wanted

-- of this text, which a span may have, and what the rest of a line says
pub record SaysCase (case : Case) (text rest : List ℕ) : Type 0 where
  pub same : case.text ≡ text
  pub characters : IsUtf8 text
  pub short : length text ≤ 131072
  pub said : Says plain rest case.marks case.wanted

-- a line, without its LF: the text between quotation marks, and a space before each further word
pub record CaseForm (case : Case) (line : List ℕ) : Type 0 where
  pub input : List ℕ
  pub text : List ℕ
  pub rest : List ℕ
  pub begun : line ≡ 34 ∷ input
  pub quoted : Quoted text (32 ∷ rest) input
  pub says : SaysCase case text rest

-- the first line, without its LF, and what stands after that
abbrev pub first_line : List ℕ → List ℕ × List ℕ
first_line text = unwrap_or (split 10 text) (text, [])

abbrev pub is_left_out : List ℕ → Bool
is_left_out [] = true
is_left_out (byte ∷ line) = byte == 35

-- a line that is neither left out nor a case's
pub record IsNoCase (line : List ℕ) : Type 0 where
  pub counted : is_left_out line ≡ false
  pub formless : (case : Case) → ¬ CaseForm case line

-- behind the line of this number there are these cases: it is left out, or the last one's
pub data Adds (line : List ℕ) (number : ℕ) (before after : List Case) : Type 0 where
  left_out : is_left_out line ≡ true → after ≡ before → Adds line number before after
  case : (case : Case) → is_left_out line ≡ false → CaseForm case line → case.line ≡ number
      → after ≡ before ++ case ∷ [] → Adds line number before after

-- The input begins with the lines of these cases, and lines that are left out; behind them stands the line of this
-- number, and the rest from there on.
pub data Begins (input : List ℕ) : List Case → ℕ → List ℕ → Type 0 where
  none : Begins input [] 1 input
  more : (before after : List Case) (number : ℕ) (text : List ℕ) → Begins input before number text → text ≢ []
      → Adds (first_line text).0 number before after → Begins input after (number + 1) (first_line text).1

-- all lines are those of these cases, or left out
abbrev pub AreCases : List ℕ → List Case → Type 0
AreCases input cases = (number : ℕ) × Begins input cases number []

-- the first line that is no case's has this number
pub record StopsAt (input : List ℕ) (number : ℕ) : Type 0 where
  pub cases : List Case
  pub text : List ℕ
  pub before : Begins input cases number text
  pub left : text ≢ []
  pub here : IsNoCase (first_line text).0
