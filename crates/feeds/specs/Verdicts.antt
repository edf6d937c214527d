-- The verdicts of a program on the spans of a version.
use Rattle.std.specs.Prelude.{ℕ, List, map}
use Rattle.semantics.specs.declared.Outcome.{Outcome}
use Rattle.semantics.specs.declared.Outcome.TheVariants.{Done}
use Rattle.semantics.specs.Step.{Program}
use Rattle.filters.specs.Filters.{whole_outcome}
use Rattle.span_flatten.specs.Version.{Version}
use Rattle.span_view.specs.Views.{SpanView, views}
use Rattle.span_view.specs.ContextOf.{bytes_of}

-- the number that a run ends with; a filter has no run without one
abbrev pub number_of : Outcome → ℕ
number_of (Done value) = value
number_of _ = 0

-- the verdict on a span
unfoldable pub verdict_on : Program → SpanView → ℕ
verdict_on program span = number_of (whole_outcome program (bytes_of span))

-- the verdicts on all spans, in order
abbrev pub verdicts_of : Program → Version → List ℕ
verdicts_of program version = map (verdict_on program) (views version)
