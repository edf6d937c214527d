-- The characters of spans, each with its format, and spans that are as long as they can be.
use Rattle.std.specs.Prelude.{◌≡◌, ◌≢◌, ◌<◌, ◌+◌, ℕ, List, [], ◌∷◌, length, map, flat_map, chars}
use Rattle.std.specs.Prelude.{encode_utf8_all}
use Rattle.std.specs.Str.{IsUtf8}
use Rattle.mark_anchors.specs.Formatting.{Format}
use Rattle.span_flatten.specs.Spans.{Shown, Span}
use Rattle.version_laws.specs.Joints.{Apart}

-- a character with its format
pub record Glyph : Type 0 where
  pub character : ℕ
  pub format : Format

-- characters that have one format
abbrev pub with_format : Format → List ℕ → List Glyph
with_format format characters = map (λ c. record { character = c; format = format }) characters

abbrev pub glyphs_of : Span → List Glyph
glyphs_of span = with_format span.format (chars span.text)

-- the characters of the spans, one after another
abbrev pub glyphs : List Span → List Glyph
glyphs spans = flat_map glyphs_of spans

-- the text of the characters, as UTF-8
abbrev pub text_of : List Glyph → List ℕ
text_of characters = encode_utf8_all (map (λ g. g.character) characters)

-- what is seen of a shown character, but for its id
abbrev pub glyph_of : Shown → Glyph
glyph_of shown = record { character = shown.character; format = shown.format }

-- a span has a character
pub record IsSpan (span : Span) : Type 0 where
  pub some : 0 < length span.text
  pub utf8 : IsUtf8 span.text

-- spans of which each has a character and another format than the next
abbrev pub AreMaximal : List Span → Type 0
AreMaximal [] = Unit {0}
AreMaximal (span ∷ spans) = IsSpan span × Apart (span ∷ []) spans × AreMaximal spans
