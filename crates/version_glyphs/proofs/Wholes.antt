-- What maximal spans are as a version: how long its text is, and that its rows may be cut out of it.
use Rattle.std.proofs.Common.{◌≡◌, ℕ, ◌+◌, ◌≤◌, List, [], ◌∷◌, ◌++◌, length, refl, ap, ◌∙◌, arith, length-append}
use Rattle.std.specs.Str.{chars}
use Rattle.std.proofs.lemmas.Str.{chars-append, chars-nil}
use Rattle.span_flatten.specs.Spans.{Span}
use Rattle.span_flatten.specs.Version.{IsLayout, IsWhole, joined, rows_from}
use Rattle.span_flatten.proofs.Laying.{layout_back, length-rows_from, rows_ordered, cut_starts, cut_ends, cut_counts}
use Rattle.version_glyphs.specs.Glyphs.{AreMaximal, glyphs, glyphs_of}
use Rattle.version_glyphs.proofs.Contents.{texts_of}
use Rattle.version_glyphs.proofs.Glyphs.{length-glyphs_of}
use Rattle.version_glyphs.proofs.Spelling.{glyphs_few}
use Rattle.version_glyphs.proofs.Laid.{spans_few}

pub joined_characters : (spans : List Span) → AreMaximal spans → length (chars (joined spans)) ≡ length (glyphs spans)
joined_characters [] m = ap length chars-nil
joined_characters (x ∷ xs) m =
    let rest = joined_characters xs m.2 in
    omega (arith, ap length (chars-append x.text (joined xs) m.0.utf8), length-append (chars x.text) (chars (joined xs)), rest, length-append (glyphs_of x) (glyphs xs), length-glyphs_of x)

-- ---- the version that is laid out
pub laid_whole : (spans : List Span) → AreMaximal spans → length (joined spans) ≤ 131072 → IsWhole (joined spans) (rows_from 0 spans)
laid_whole spans m short =
    let texts = texts_of spans m in
    let layout : IsLayout spans (joined spans) (rows_from 0 spans) = record { whole = refl; end_to_end = refl } in
    record {
      layout = layout_back spans (joined spans) (rows_from 0 spans) layout;
      limits = record {
        short = short;
        few = omega (arith, length-rows_from 0 spans, spans_few spans m, glyphs_few spans m, short);
        ordered = rows_ordered 0 spans;
        starts = cut_starts spans texts;
        ends = cut_ends spans texts;
      };
      counted = cut_counts spans;
    }
