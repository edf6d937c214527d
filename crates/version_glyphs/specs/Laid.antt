-- Spans laid out as a version.
use Rattle.std.specs.Prelude.{◌≡◌, ◌<◌, ◌≤◌, ◌+◌, ℕ, List}
use Rattle.span_flatten.specs.Spans.{Span}
use Rattle.span_flatten.specs.Version.{Version, joined, rows_from}

-- the version with these spans
abbrev pub laid : ℕ → List Span → Version
laid number spans = record { number = number; text = joined spans; rows = rows_from 0 spans }
