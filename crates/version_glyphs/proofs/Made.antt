-- The spans of a version of operations are maximal.
use Rattle.std.proofs.Common.{ℕ, ◌≤◌, List, [], ◌∷◌, arith, All, IsUtf8}
use Rattle.std.specs.Str.{IsCharBoundary}
use Rattle.std.proofs.lemmas.List.Elements.{All-cons, All-head, All-tail}
use Rattle.std.proofs.lemmas.Str.{IsUtf8-between}
use Rattle.change_ops.specs.declared.operation.Op.{Op}
use Rattle.span_flatten.specs.declared.version.Row.{Row}
use Rattle.span_flatten.specs.Spans.{Span, AreSpans}
use Rattle.span_flatten.specs.Version.{Version, IsWithinLimits, span_at, spans_in, spans_of}
use Rattle.version_glyphs.specs.Glyphs.{AreMaximal}
use Rattle.version_glyphs.specs.Made.{IsMade}
use Rattle.version_glyphs.proofs.Contents.{scalars_cut}
use Rattle.version_glyphs.proofs.Glyphs.{maximal_from_cuts}

-- the pieces of a text that rows cut out of it are texts
pub texts_in : (text : List ℕ) (rows : List Row) → IsUtf8 text → All (λ row. row.start ≤ row.end) rows → All (λ row. IsCharBoundary text row.start) rows → All (λ row. IsCharBoundary text row.end) rows → All (λ s. IsUtf8 s.text) (spans_in text rows)
texts_in text [] utf8 ordered starts ends = λ k d h. absurd (omega arith)
texts_in text (row ∷ rows) utf8 ordered starts ends =
    let Ordered : Row → Type 0 = λ row. row.start ≤ row.end in
    let Starts : Row → Type 0 = λ row. IsCharBoundary text row.start in
    let Ends : Row → Type 0 = λ row. IsCharBoundary text row.end in
    All-cons (λ (s : Span). IsUtf8 s.text) (span_at text row) (spans_in text rows)
    (IsUtf8-between text row.start row.end utf8 (All-head Ordered row rows ordered) (All-head Starts row rows starts) (All-head Ends row rows ends))
    (texts_in text rows utf8 (All-tail Ordered row rows ordered) (All-tail Starts row rows starts) (All-tail Ends row rows ends))

spans_made : (ops : List Op) (spans : List Span) → AreSpans ops spans → All (λ s. IsUtf8 s.text) spans → AreMaximal spans
spans_made ops spans are texts = (maximal_from_cuts spans are.0 texts (scalars_cut spans are.0 texts are.2) are.2).0

pub version_made : (version : Version) → IsMade version → IsUtf8 version.text → IsWithinLimits version.text version.rows → AreMaximal (spans_of version)
version_made version made utf8 limits =
    spans_made made.ops (spans_of version) made.is.spans
    (texts_in version.text version.rows utf8 limits.ordered limits.starts limits.ends)
