-- Spans that agree in all but index, count and number, and what is kept of the verdicts on a version.
use Rattle.std.specs.Prelude.{◌≡◌, ℕ, ◌+◌, ◌-◌, ◌<◌, ◌≤◌, IfSome, IsTrue, Some, length}
use Rattle.change_ops.specs.Attributes.{is_link}
use Rattle.change_ops.specs.declared.keys.TheConstants.{STRONG, EM, CODE}
use Rattle.mark_anchors.specs.Formatting.{Format, has, link_in, color_in}
use Rattle.semantics.specs.Safe.{IsSpan}
use Rattle.semantics.specs.Step.{Program}
use Rattle.span_flatten.specs.Spans.{Span}
use Rattle.span_flatten.specs.Version.{Version}
use Rattle.span_view.specs.Views.{SpanView, view_at}
use Rattle.span_view.specs.ContextOf.{bytes_of}
use Rattle.version_history.specs.Tokens.{Token}
use Rattle.feeds.specs.Batches.{Job}
use Rattle.feeds.specs.Verdicts.{verdict_on}

-- what a program can read of the two formats is the same
pub record AreFormattedAlike (older newer : Format) : Type 0 where
  pub strong : has older STRONG ≡ has newer STRONG
  pub em : has older EM ≡ has newer EM
  pub code : has older CODE ≡ has newer CODE
  pub link : link_in older ≡ link_in newer
  pub color : color_in older ≡ color_in newer
  pub comments : length older.comments ≡ length newer.comments

-- what a program can read of the two spans is the same, and their links are links
pub record AreAlike (older newer : Span) : Type 0 where
  pub text : older.text ≡ newer.text
  pub format : AreFormattedAlike older.format newer.format
  pub link : IfSome (link_in newer.format) (λ target. IsTrue (is_link target))

-- a program may be run on both, and what it can read of them differs in the index, the count of spans and the
-- version's number alone
pub record IsAlike (older newer : SpanView) : Type 0 where
  pub older_lent : IsSpan (bytes_of older)
  pub newer_lent : IsSpan (bytes_of newer)
  pub text : older.text ≡ newer.text
  pub format : AreFormattedAlike older.format newer.format

-- the verdict on a span doesn't depend on its index, the count of spans and the version's number
abbrev pub IsBlindToPosition : Program → Type 0
IsBlindToPosition program =
    (older newer : SpanView) → IsAlike older newer → verdict_on program older ≡ verdict_on program newer

-- the spans at these two indices are alike
abbrev pub AlikeAt : Version → ℕ → Version → ℕ → Type 0
AlikeAt older i newer j =
    (a b : SpanView) → view_at older i ≡ Some a → view_at newer j ≡ Some b → IsAlike a b

-- the first `front` spans and the last `back` spans are alike one by one
pub record IsStretch (older newer : Version) (front back : ℕ) : Type 0 where
  pub within_older : front + back ≤ length older.rows
  pub within_newer : front + back ≤ length newer.rows
  pub front_alike : (i : ℕ) → i < front → AlikeAt older i newer i
  pub back_alike : (i : ℕ) → i < back → AlikeAt older (length older.rows - 1 - i) newer (length newer.rows - 1 - i)

-- two versions, and how many of their spans are alike at the front and at the back
pub record Stretch : Type 0 where
  pub older : Token Version
  pub newer : Token Version
  pub front : ℕ
  pub back : ℕ

-- a program and a version, whose verdicts are kept
pub record KeptVerdicts : Type 0 where
  pub program : Token Program
  pub version : Token Version

-- a program whose verdicts on an earlier version are kept, and a later version that was compared with that one
pub record Known : Type 0 where
  pub program : Token Program
  pub compared : Stretch

-- it is of the job's program, and the later version is the job's
pub record IsKnownOf (known : Known) (job : Job) : Type 0 where
  pub program : known.program ≡ job.program
  pub newer : known.compared.newer ≡ job.version
