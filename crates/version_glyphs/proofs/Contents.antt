-- Characters with their formats, shown as spans, and the texts of spans.
use Rattle.std.proofs.Common.{◌≡◌, ℕ, ◌+◌, ◌-◌, ◌<◌, ◌≤◌, ◌&&◌, true, List, [], ◌∷◌, ◌++◌, length, map, refl, sym, ap, subst, ◌∙◌, arith, All, IsUtf8}
use Rattle.std.specs.Str.{chars}
use Rattle.std.proofs.Math.Utf8.{scalars, scalar}
use Rattle.std.proofs.lemmas.Bool.{and_parts}
use Rattle.std.proofs.lemmas.List.{map-append}
use Rattle.std.proofs.lemmas.List.Elements.{All-cons, All-head, All-tail}
use Rattle.std.proofs.lemmas.Str.{chars_from_encodes, encodes-chars, chars-encodes, length-le-encodes}
use Rattle.mark_anchors.specs.Formatting.{Format}
use Rattle.span_flatten.specs.Spans.{Shown, Span, Cuts}
use Rattle.span_flatten.proofs.Cutting.{one_cut}
use Rattle.version_glyphs.specs.Glyphs.{Glyph, with_format, glyphs, glyph_of, AreMaximal}
use Rattle.version_glyphs.proofs.Glyphs.{cuts_from_maximal}

-- a character as it is shown, with any id
abbrev pub shown_as : Glyph → Shown
shown_as g = record { id = record { counter = 0; node = 0 }; character = g.character; format = g.format }

pub glyphs_back : (gs : List Glyph) → map glyph_of (map shown_as gs) ≡ gs
glyphs_back [] = refl
glyphs_back (g ∷ gs) = ap (λ l. g ∷ l) (glyphs_back gs)

characters_with : (f : Format) (cs : List ℕ) → map (λ g. g.character) (with_format f cs) ≡ cs
characters_with f [] = refl
characters_with f (c ∷ cs) = ap (λ l. c ∷ l) (characters_with f cs)

pub scalars_of : (text : List ℕ) → IsUtf8 text → scalars (chars text) ≡ true
scalars_of text utf8 = subst (λ l. scalars l ≡ true) (sym (chars-encodes utf8.0 utf8.1.0) ∙ ap chars utf8.1.1) utf8.1.0

pub scalars-append : (xs ys : List ℕ) → scalars xs ≡ true → scalars ys ≡ true → scalars (xs ++ ys) ≡ true
scalars-append [] ys e f = f
scalars-append (x ∷ xs) ys e f =
    let r = and_parts (scalar x) (scalars xs) e in
    ap (λ b. b && scalars (xs ++ ys)) r.0 ∙ scalars-append xs ys r.1 f

-- the characters of spans that are texts are scalar values
pub scalars_cut : (spans : List Span) (shown : List Shown) → All (λ s. IsUtf8 s.text) spans → Cuts shown spans → scalars (map (λ s. s.character) shown) ≡ true
scalars_cut [] shown texts c = ap (λ (l : List Shown). scalars (map (λ s. s.character) l)) c
scalars_cut (x ∷ xs) shown texts c =
    let front : List ℕ = map (λ s. s.character) c.0 in
    let rest : List ℕ = map (λ s. s.character) c.1.0 in
    let utf8 : IsUtf8 x.text = All-head (λ s. IsUtf8 s.text) x xs texts in
    let read : front ≡ chars x.text = chars_from_encodes front x.text utf8 (sym c.1.2.spelt) in
    ap (λ (l : List Shown). scalars (map (λ s. s.character) l)) c.1.1 ∙ ap scalars (map-append (λ (s : Shown). s.character) c.0 c.1.0)
    ∙ scalars-append front rest (ap scalars read ∙ scalars_of x.text utf8) (scalars_cut xs c.1.0 (All-tail (λ s. IsUtf8 s.text) x xs texts) c.1.3)

pub texts_of : (spans : List Span) → AreMaximal spans → All (λ s. IsUtf8 s.text) spans
texts_of [] m = λ k d h. absurd (omega arith)
texts_of (x ∷ xs) m = All-cons (λ s. IsUtf8 s.text) x xs m.0.utf8 (texts_of xs m.2)

pub shown_cuts : (spans : List Span) → AreMaximal spans → Cuts (map shown_as (glyphs spans)) spans
shown_cuts spans m = cuts_from_maximal spans (map shown_as (glyphs spans)) m (sym (glyphs_back (glyphs spans)))

-- a text has no more characters than bytes
pub chars_few : (text : List ℕ) → IsUtf8 text → length (chars text) ≤ length text
chars_few text utf8 =
    let few = length-le-encodes (chars text) in
    let same = ap length (encodes-chars text utf8) in
    omega (arith, few, same)

-- ---- characters have one list of maximal spans
pub one_maximal : (a b : List Span) → AreMaximal a → AreMaximal b → glyphs a ≡ glyphs b → a ≡ b
one_maximal a b m n same =
    one_cut (map shown_as (glyphs a)) a b (shown_cuts a m) (cuts_from_maximal b (map shown_as (glyphs a)) n (sym same ∙ sym (glyphs_back (glyphs a))))
