-- The text that characters spell, and that of maximal spans, which has a byte for each of their characters at least.
use Rattle.std.proofs.Common.{◌≡◌, ℕ, ◌≤◌, List, [], ◌∷◌, ◌++◌, length, map, refl, ap, ◌∙◌, arith, length-append, encode_utf8_all}
use Rattle.std.specs.Str.{chars}
use Rattle.std.proofs.lemmas.List.{map-append}
use Rattle.std.proofs.lemmas.Str.{encodes-append, encodes-chars}
use Rattle.mark_anchors.specs.Formatting.{Format}
use Rattle.char_sequence.specs.declared.sequence.Element.{Element}
use Rattle.char_sequence.specs.Visible.{visible_text}
use Rattle.span_flatten.specs.Spans.{Shown, Span}
use Rattle.span_flatten.specs.Taken.{element_of, AreDrawn}
use Rattle.span_flatten.specs.Version.{joined}
use Rattle.version_glyphs.specs.Glyphs.{Glyph, AreMaximal, glyph_of, glyphs, glyphs_of, text_of, with_format}
use Rattle.version_glyphs.proofs.Contents.{chars_few}
use Rattle.version_glyphs.proofs.Glyphs.{length-glyphs_of}

characters_with : (format : Format) (cs : List ℕ) → map (λ (g : Glyph). g.character) (with_format format cs) ≡ cs
characters_with format [] = refl
characters_with format (c ∷ cs) = ap (λ l. c ∷ l) (characters_with format cs)

text_of-append : (xs ys : List Glyph) → text_of (xs ++ ys) ≡ text_of xs ++ text_of ys
text_of-append xs ys =
    ap encode_utf8_all (map-append (λ (g : Glyph). g.character) xs ys)
    ∙ encodes-append (map (λ (g : Glyph). g.character) xs) (map (λ (g : Glyph). g.character) ys)

-- the spans' text is that of their characters
pub joined_text : (spans : List Span) → AreMaximal spans → text_of (glyphs spans) ≡ joined spans
joined_text [] m = refl
joined_text (x ∷ xs) m =
    let first : text_of (glyphs_of x) ≡ x.text = ap encode_utf8_all (characters_with x.format (chars x.text)) ∙ encodes-chars x.text m.0.utf8 in
    text_of-append (glyphs_of x) (glyphs xs) ∙ ap (λ t. t ++ text_of (glyphs xs)) first ∙ ap (λ t. x.text ++ t) (joined_text xs m.2)

pub glyphs_few : (spans : List Span) → AreMaximal spans → length (glyphs spans) ≤ length (joined spans)
glyphs_few [] m = omega arith
glyphs_few (x ∷ xs) m =
    let first = chars_few x.text m.0.utf8 in
    let rest = glyphs_few xs m.2 in
    omega (arith, first, rest, length-append x.text (joined xs), length-append (glyphs_of x) (glyphs xs), length-glyphs_of x)

characters_shown : (shown : List Shown) → map (λ (g : Glyph). g.character) (map glyph_of shown) ≡ map (λ (e : Element). e.character) (map element_of shown)
characters_shown [] = refl
characters_shown (s ∷ shown) = ap (λ l. s.character ∷ l) (characters_shown shown)

-- the shown characters spell the visible text
pub text_drawn : (es : List Element) (shown : List Shown) → AreDrawn es shown → text_of (map glyph_of shown) ≡ visible_text es
unfolding visible_text
text_drawn es shown drawn = ap encode_utf8_all (characters_shown shown) ∙ ap (λ l. encode_utf8_all (map (λ (e : Element). e.character) l)) drawn
