-- Spans parted where the formats of their characters differ.
use Rattle.std.proofs.Common.{◌≡◌, ◌≢◌, ℕ, zero, suc, ◌+◌, ◌-◌, ◌<◌, ◌≤◌, inl, inr, List, [], ◌∷◌, ◌++◌, Some, length, refl, sym, ap, ◌∙◌, arith, length-append}
use Rattle.std.specs.List.{slice_get}
use Rattle.std.specs.Str.{chars}
use Rattle.std.proofs.lemmas.Bool.{cases_lt}
use Rattle.std.proofs.lemmas.Option.{none-some, same_Some}
use Rattle.std.proofs.lemmas.List.{length-map, map-append}
use Rattle.mark_anchors.specs.Formatting.{Format}
use Rattle.span_flatten.specs.Spans.{Span}
use Rattle.version_laws.specs.Joints.{Apart}
use Rattle.version_laws.proofs.Lists.{get_behind}
use Rattle.version_glyphs.specs.Glyphs.{AreMaximal, Glyph, glyphs, glyphs_of, with_format}
use Rattle.version_glyphs.specs.Replacements.{formats}
use Rattle.version_glyphs.proofs.Glyphs.{length-glyphs_of, some_characters}

-- ---- formats of characters by places
formats_append : (xs ys : List Glyph) → formats (xs ++ ys) ≡ formats xs ++ formats ys
formats_append xs ys = map-append (λ (g : Glyph). g.format) xs ys

pub length_formats : (xs : List Glyph) → length (formats xs) ≡ length xs
length_formats xs = length-map xs (λ (g : Glyph). g.format)

get_front : {X : Type 0} (xs ys : List X) (j : ℕ) → j < length xs → slice_get (xs ++ ys) j ≡ slice_get xs j
get_front [] ys j less = absurd (omega arith)
get_front (x ∷ xs) ys zero less = refl
get_front (x ∷ xs) ys (suc j) less = get_front xs ys j (omega arith)

pub format_ahead : (xs ys : List Glyph) (i : ℕ) → i < length xs → slice_get (formats (xs ++ ys)) i ≡ slice_get (formats xs) i
format_ahead xs ys i less =
    ap (λ (l : List Format). slice_get l i) (formats_append xs ys) ∙ get_front (formats xs) (formats ys) i (omega (arith, less, length_formats xs))

pub format_behind : (xs ys : List Glyph) (i : ℕ) → slice_get (formats (xs ++ ys)) (length xs + i) ≡ slice_get (formats ys) i
format_behind xs ys i =
    let size : length xs + i ≡ length (formats xs) + i = omega (arith, length_formats xs) in
    ap (λ (l : List Format). slice_get l (length xs + i)) (formats_append xs ys) ∙ ap (slice_get (formats xs ++ formats ys)) size
    ∙ get_behind (formats xs) (formats ys) i

-- the characters of a span have its format
format_in : (f : Format) (cs : List ℕ) (i : ℕ) → i < length cs → slice_get (formats (with_format f cs)) i ≡ Some f
format_in f [] i less = absurd (omega arith)
format_in f (c ∷ cs) zero less = refl
format_in f (c ∷ cs) (suc i) less = format_in f cs i (omega arith)

format_of : (x : Span) (rest : List Glyph) (i : ℕ) → i < length (glyphs_of x) → slice_get (formats (glyphs_of x ++ rest)) i ≡ Some x.format
format_of x rest i less = format_ahead (glyphs_of x) rest i less ∙ format_in x.format (chars x.text) i (omega (arith, less, length-glyphs_of x))

-- ---- where maximal spans meet
pub maximal_parts : (before after : List Span) → AreMaximal (before ++ after) → AreMaximal before × AreMaximal after
maximal_parts [] after m = (tt, m)
maximal_parts (x ∷ []) after m = ((m.0, (λ i a b last g h. absurd (none-some b h)), tt), m.2)
maximal_parts (x ∷ y ∷ before) after m =
    let rest = maximal_parts (y ∷ before) after m.2 in
    ((m.0, m.1, rest.0), rest.1)

joint : (before after : List Span) → AreMaximal (before ++ after) → Apart before after
joint [] after m i x y last g h = absurd (none-some x g)
joint (a ∷ []) after m i x y last g h = m.1 i x y last g h
joint (a ∷ b ∷ before) after m zero x y last g h = absurd (omega (arith, last))
joint (a ∷ b ∷ before) after m (suc i) x y last g h = joint (b ∷ before) after m.2 i x y (omega (arith, last)) g h

some_glyphs : (x : Span) (spans : List Span) → AreMaximal (x ∷ spans) → 0 < length (glyphs_of x)
some_glyphs x spans m = omega (arith, some_characters x m.0, length-glyphs_of x)

first_format : (spans : List Span) → AreMaximal spans → (y : Format) → slice_get (formats (glyphs spans)) 0 ≡ Some y → (b : Span) × (slice_get spans 0 ≡ Some b) × (b.format ≡ y)
first_format [] m y h = absurd (none-some y h)
first_format (b ∷ spans) m y h = (b, refl, same_Some b.format y (sym (format_of b (glyphs spans) 0 (some_glyphs b spans m)) ∙ h))

last_format : (spans : List Span) → AreMaximal spans → (i : ℕ) (x : Format) → i + 1 ≡ length (glyphs spans) → slice_get (formats (glyphs spans)) i ≡ Some x
    → (j : ℕ) × ((a : Span) × (j + 1 ≡ length spans) × (slice_get spans j ≡ Some a) × (a.format ≡ x))
last_format [] m i x last g = absurd (none-some x g)
last_format (a ∷ []) m i x last g =
    let less : i < length (glyphs_of a) = omega (arith, last, length-append (glyphs_of a) []) in
    (zero, (a, refl, refl, same_Some a.format x (sym (format_of a [] i less) ∙ g)))
last_format (a ∷ b ∷ spans) m i x last g =
    let n : ℕ = length (glyphs_of a) in
    let rest : List Glyph = glyphs (b ∷ spans) in
    let some : 0 < length rest = omega (arith, some_glyphs b spans m.2, length-append (glyphs_of b) (glyphs spans)) in
    let whole : length (glyphs (a ∷ b ∷ spans)) ≡ n + length rest = length-append (glyphs_of a) rest in
    let at : i ≡ n + (i - n) = omega (arith, last, whole, some) in
    let r = last_format (b ∷ spans) m.2 (i - n) x (omega (arith, last, whole, at))
    (sym (format_behind (glyphs_of a) rest (i - n)) ∙ ap (slice_get (formats (glyphs_of a ++ rest))) (sym at) ∙ g) in
    (suc r.0, (r.1.0, omega (arith, r.1.1), r.1.2, r.1.3))

-- the last of the first characters has another format than the first of the second ones, where there are both
abbrev pub AreParted : List Glyph → List Glyph → Type 0
AreParted before after = (i : ℕ) (x y : Format) → i + 1 ≡ length before → slice_get (formats before) i ≡ Some x → slice_get (formats after) 0 ≡ Some y → x ≢ y

pub maximal_parted : (before after : List Span) → AreMaximal (before ++ after) → AreParted (glyphs before) (glyphs after)
maximal_parted before after m i x y last g h same =
    let parts = maximal_parts before after m in
    let l = last_format before parts.0 i x last g in
    let f = first_format after parts.1 y h in
    joint before after m l.0 l.1.0 f.0 l.1.1 l.1.2 f.1 (l.1.3 ∙ same ∙ sym f.2)

-- ---- spans whose characters are parted
-- the last of the first characters is the last of those behind some of them
parted_behind : (us zs all ys : List Glyph) → all ≡ us ++ zs → AreParted all ys → AreParted zs ys
parted_behind us zs all ys cut apart i u v end g h =
    apart (length us + i) u v (omega (arith, end, ap length cut, length-append us zs))
    (ap (λ (l : List Glyph). slice_get (formats l) (length us + i)) cut ∙ format_behind us zs i ∙ g) h

-- where two lists are two others, the longer first one goes on behind the other
append_longer : {X : Type 0} (us vs xs ys : List X) → us ++ vs ≡ xs ++ ys → length us ≤ length xs → (zs : List X) × (xs ≡ us ++ zs) × (vs ≡ zs ++ ys)
append_longer [] vs xs ys e le = (xs, refl, e)
append_longer (u ∷ us) vs [] ys e le = absurd (omega arith)
append_longer (u ∷ us) vs (x ∷ xs) ys e le =
    let head : u ≡ x = cc in
    let tail : us ++ vs ≡ xs ++ ys = cc in
    let r = append_longer us vs xs ys tail (omega arith) in
    let rest : xs ≡ us ++ r.0 = r.1 in
    (r.0, cc, r.2)

-- spans of the first characters, and spans of the second ones
pub record Parts (spans : List Span) (xs ys : List Glyph) : Type 0 where
  pub front : List Span
  pub back : List Span
  pub are : spans ≡ front ++ back
  pub first : glyphs front ≡ xs
  pub second : glyphs back ≡ ys

-- a span has one format, so that none has characters on both sides
pub parted : (spans : List Span) (xs ys : List Glyph) → glyphs spans ≡ xs ++ ys → AreParted xs ys → Parts spans xs ys
parted spans [] ys e apart = record { front = []; back = spans; are = refl; first = refl; second = e }
parted [] (x ∷ xs) ys e apart = absurd cc
parted (t ∷ ts) (x ∷ xs) ys e apart = elim (cases_lt (length (x ∷ xs)) (length (glyphs_of t))) [
  | inl less ↦
      let n : ℕ = length (x ∷ xs) in
      let at : n ≡ n + 0 = omega arith in
      let last : slice_get (formats (x ∷ xs)) (length xs) ≡ Some t.format =
      sym (format_ahead (x ∷ xs) ys (length xs) (omega arith)) ∙ ap (λ (l : List Glyph). slice_get (formats l) (length xs)) (sym e)
      ∙ format_of t (glyphs ts) (length xs) (omega (arith, less)) in
      let first : slice_get (formats ys) 0 ≡ Some t.format =
      sym (format_behind (x ∷ xs) ys 0) ∙ ap (slice_get (formats ((x ∷ xs) ++ ys))) (sym at) ∙ ap (λ (l : List Glyph). slice_get (formats l) n) (sym e)
      ∙ format_of t (glyphs ts) n less in
      absurd (apart (length xs) t.format t.format (omega arith) last first refl)
  | inr ge ↦
      let r = append_longer (glyphs_of t) (glyphs ts) (x ∷ xs) ys e ge in
      let zs : List Glyph = r.0 in
      let cut : x ∷ xs ≡ glyphs_of t ++ zs = r.1 in
      let rest : Parts ts zs ys = parted ts zs ys r.2 (parted_behind (glyphs_of t) zs (x ∷ xs) ys cut apart) in
      record {
        front = t ∷ rest.front;
        back = rest.back;
        are = ap (λ (l : List Span). t ∷ l) rest.are;
        first = ap (λ (l : List Glyph). glyphs_of t ++ l) rest.first ∙ sym cut;
        second = rest.second;
      }
]
