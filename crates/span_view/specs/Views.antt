-- The spans of a version as they are lent.
use Rattle.std.specs.Prelude.{◌≤◌, ◌<◌, ℕ, List, Option, length, map, option_map, slice_get, slice_range}
use Rattle.std.specs.List.{enumerate_from}
use Rattle.mark_anchors.specs.Formatting.{Format}
use Rattle.span_flatten.specs.declared.version.Row.{Row}
use Rattle.span_flatten.specs.Version.{Version}

-- a span: its text as UTF-8, its format, its index among the version's spans, how many these are, and the version's
-- number
pub record SpanView : Type 0 where
  pub text : List ℕ
  pub format : Format
  pub index : ℕ
  pub count : ℕ
  pub version : ℕ

-- the span of the row at an index
abbrev pub view_of : Version → ℕ → Row → SpanView
view_of version index row = record {
  text = slice_range version.text row.start row.end;
  format = row.format;
  index = index;
  count = length version.rows;
  version = version.number;
}

-- the span at an index, if there is one
abbrev pub view_at : Version → ℕ → Option SpanView
view_at version index = option_map (λ row. view_of version index row) (slice_get version.rows index)

-- all spans, in order
abbrev pub views : Version → List SpanView
views version = map (λ indexed. view_of version indexed.0 indexed.1) (enumerate_from 0 version.rows)

-- the limits of a span
pub record IsWithinLimits (length_of_text index count : ℕ) : Type 0 where
  pub short : length_of_text ≤ 131072
  pub within : index < count
  pub few : count ≤ 131072
