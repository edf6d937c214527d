-- Spans have as many characters as are visible of the elements, which are shown in parts as they fall into parts.
use Rattle.std.proofs.Common.{◌≡◌, List, ◌++◌, length, map, ap, ◌∙◌, All, IsUtf8}
use Rattle.std.specs.List.{count_by}
use Rattle.std.proofs.lemmas.List.{length-map}
use Rattle.change_ops.specs.declared.operation.Op.{Op}
use Rattle.char_sequence.specs.declared.sequence.Element.{Element}
use Rattle.char_sequence.specs.Order.{Shows}
use Rattle.span_flatten.specs.Spans.{Shown, Span, AreSpans, Cuts}
use Rattle.span_flatten.specs.Taken.{AreDrawn, is_visible}
use Rattle.version_laws.proofs.DrawnKept.{drawn_count, drawn_parted}
use Rattle.version_laws.proofs.DrawnBack.{visible_drawn}
use Rattle.version_glyphs.specs.Glyphs.{glyph_of, glyphs, AreMaximal}
use Rattle.version_glyphs.proofs.Contents.{scalars_cut, texts_of}
use Rattle.version_glyphs.proofs.Glyphs.{maximal_from_cuts}

-- ---- spans have as many characters as are visible
-- the shown characters are those of their spans
pub seen_glyphs : (shown : List Shown) (spans : List Span) → All (λ s. IsUtf8 s.text) spans → Cuts shown spans → glyphs spans ≡ map glyph_of shown
seen_glyphs shown spans texts cuts = (maximal_from_cuts spans shown texts (scalars_cut spans shown texts cuts) cuts).1

pub glyphs_drawn : (es : List Element) (shown : List Shown) (spans : List Span) → All (λ s. IsUtf8 s.text) spans → AreDrawn es shown → Cuts shown spans → length (glyphs spans) ≡ count_by is_visible es
glyphs_drawn es shown spans texts drawn cuts = ap length (seen_glyphs shown spans texts cuts) ∙ length-map shown glyph_of ∙ drawn_count es shown drawn

pub glyphs_counted : (ops : List Op) (es : List Element) → Shows es ops → (spans : List Span) → AreMaximal spans → AreSpans ops spans → length (glyphs spans) ≡ count_by is_visible es
glyphs_counted ops es shows spans m all = glyphs_drawn es all.0 spans (texts_of spans m) (visible_drawn ops es all.0 shows all.1) all.2

-- ---- parts
-- what is shown of elements in three parts
pub record Around (first middle last : List Element) (shown : List Shown) : Type 0 where
  pub front : List Shown
  pub mid : List Shown
  pub back : List Shown
  pub parts : shown ≡ front ++ (mid ++ back)
  pub drawn_front : AreDrawn first front
  pub drawn_mid : AreDrawn middle mid
  pub drawn_back : AreDrawn last back

pub around : (first middle last : List Element) (shown : List Shown) → AreDrawn (first ++ (middle ++ last)) shown → Around first middle last shown
around first middle last shown whole =
    let outer = drawn_parted first (middle ++ last) shown whole in
    let inner = drawn_parted middle last outer.1.0 outer.1.3 in
    record {
      front = outer.0;
      mid = inner.0;
      back = inner.1.0;
      parts = outer.1.1 ∙ ap (λ l. outer.0 ++ l) inner.1.1;
      drawn_front = outer.1.2;
      drawn_mid = inner.1.2;
      drawn_back = inner.1.3;
    }
