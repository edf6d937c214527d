-- A version: the spans of a set of operations as one text, with a row for each span (Peritext, CSCW 2022).
use Rattle.std.specs.Prelude.{◌≡◌, ◌<◌, ◌≤◌, ◌+◌, ℕ, List, [], ◌∷◌, length, map, flat_map, slice_range, All, chars}
use Rattle.std.specs.Prelude.{encode_utf8_all}
use Rattle.std.specs.Str.{IsUtf8, IsCharBoundary}
use Rattle.change_ops.specs.declared.operation.Op.{Op}
use Rattle.span_flatten.specs.declared.version.Row.{Row}
use Rattle.span_flatten.specs.Spans.{Shown, Span, Cuts, AreSpans}

-- what is seen of a version: its number, its text as UTF-8, and its rows
pub record Version : Type 0 where
  pub number : ℕ
  pub text : List ℕ
  pub rows : List Row

-- the piece of the text from the row's start to its end, with the row's format
abbrev pub span_at : List ℕ → Row → Span
span_at text row = record { text = slice_range text row.start row.end; format = row.format }

abbrev pub spans_in : List ℕ → List Row → List Span
spans_in text rows = map (λ row. span_at text row) rows

abbrev pub spans_of : Version → List Span
spans_of version = spans_in version.text version.rows

-- the spans' texts, one after another
abbrev pub joined : List Span → List ℕ
joined spans = flat_map (λ span. span.text) spans

-- a row for each span, one after another from byte `start` on, each as long as its span's text, with the number of its
-- characters
abbrev pub rows_from : ℕ → List Span → List Row
rows_from start [] = []
rows_from start (span ∷ spans) =
    let end =
    start + length span.text
    in record { start = start; end = end; characters = length (chars span.text); format = span.format }
    ∷ rows_from end spans

-- the spans are laid out as one text and a row (start, end, characters, format) for each, end to end
pub record IsLayout (spans : List Span) (text : List ℕ) (rows : List Row) : Type 0 where
  pub whole : text ≡ joined spans
  pub end_to_end : rows ≡ rows_from 0 spans

-- the limits of a version, and that a row may be cut out of the text
pub record IsWithinLimits (text : List ℕ) (rows : List Row) : Type 0 where
  pub short : length text ≤ 131072
  pub few : length rows ≤ 131072
  pub ordered : All (λ row. row.start ≤ row.end) rows
  pub starts : All (λ row. IsCharBoundary text row.start) rows
  pub ends : All (λ row. IsCharBoundary text row.end) rows

-- what the type of a version keeps
pub record IsWhole (text : List ℕ) (rows : List Row) : Type 0 where
  pub layout : IsLayout (spans_in text rows) text rows
  pub limits : IsWithinLimits text rows
  pub counted : All (λ row. row.characters ≡ length (chars (slice_range text row.start row.end))) rows

-- the version with this number of a set of operations
pub record IsVersion (ops : List Op) (number : ℕ) (version : Version) : Type 0 where
  pub numbered : version.number ≡ number
  pub spans : AreSpans ops (spans_of version)
  pub layout : IsLayout (spans_of version) version.text version.rows

-- the span is that of these characters, which have one format
pub record IsPiece (more : List Shown) (span : Span) : Type 0 where
  pub some : 0 < length more
  pub alike : All (λ s. s.format ≡ span.format) more
  pub spelt : span.text ≡ encode_utf8_all (map (λ s. s.character) more)
  pub utf8 : IsUtf8 span.text

-- the first characters, cut and laid out
pub record IsDraft (shown : List Shown) (text : List ℕ) (rows : List Row) : Type 0 where
  pub spans : List Span
  pub cut : Cuts shown spans
  pub layout : IsLayout spans text rows
  pub texts : All (λ s. IsUtf8 s.text) spans
