-- Spans of a version that stand as they stood in the one before it.
use Rattle.std.specs.Prelude.{◌≡◌, ◌<◌, ◌≤◌, ◌+◌, ◌-◌, ℕ, List, drop, length, take}
use Rattle.span_flatten.specs.Spans.{Span}
use Rattle.version_glyphs.specs.Glyphs.{glyphs}

-- so many spans from the first one on and so many up to the last one are the same, and none is counted twice
pub record AreAlike (older newer : List Span) (front behind : ℕ) : Type 0 where
  pub fits_older : front + behind ≤ length older
  pub fits_newer : front + behind ≤ length newer
  pub front_stands : take front older ≡ take front newer
  pub behind_stands : drop (length older - behind) older ≡ drop (length newer - behind) newer

-- how many characters stand before the span of an index
abbrev pub characters_before : List Span → ℕ → ℕ
characters_before spans index = length (glyphs (take index spans))

-- so many spans begin before the place
pub record AreBegun (spans : List Span) (place count : ℕ) : Type 0 where
  pub within : count ≤ length spans
  pub last : 0 < count → characters_before spans (count - 1) < place
  pub next : place ≤ characters_before spans count

-- so many spans end where a range begins or before that, and so many begin where it ends or behind that
pub record AreAround (spans : List Span) (from to front behind : ℕ) : Type 0 where
  pub fits : front + behind ≤ length spans
  pub ended : characters_before spans front ≤ from
  pub unended : front < length spans → from < characters_before spans (front + 1)
  pub behind_range : AreBegun spans to (length spans - behind)
