-- Spans as the characters of a text and the runs of their formats.
use Rattle.std.proofs.Common.{◌≡◌, ℕ, zero, suc, ◌+◌, ◌*◌, ◌≤◌, true, List, [], ◌∷◌, ◌++◌, Some, length, take, drop, replicate, refl, sym, ap, ◌∙◌, arith, length-append, encode_utf8_all, All, IsUtf8}
use Rattle.std.specs.List.{slice_get, slice_range}
use Rattle.std.specs.Str.{chars}
use Rattle.std.proofs.Math.Utf8.{encode, scalars}
use Rattle.std.proofs.lemmas.List.{drop-drop, length-drop, length-replicate, length-take-le, take-append-drop}
use Rattle.std.proofs.lemmas.List.Sums.{sum_by-cons}
use Rattle.std.proofs.lemmas.Option.{none-some, same_Some}
use Rattle.std.proofs.lemmas.List.Elements.{All-head, All-tail}
use Rattle.std.proofs.lemmas.List.Folds.{drop_split}
use Rattle.std.proofs.lemmas.Str.{chars-append, chars-encodes, chars-nil, encodes-append, len_utf8_bounds, length-encode, length-le-encodes}
use Rattle.mark_anchors.specs.Formatting.{Format}
use Rattle.span_flatten.specs.Spans.{Span}
use Rattle.span_flatten.specs.declared.version.Row.{Row}
use Rattle.span_flatten.specs.Version.{IsWhole, joined, rows_from, spans_in}
use Rattle.format_runs.specs.Runs.{Run, AreMaximal as AreMaximalRuns, character_count, formats_in, formats_of}
use Rattle.format_runs.proofs.Formats.{length_formats}
use Rattle.text_pieces.specs.Texts.{AreCharacters}
use Rattle.version_laws.proofs.Counted.{scalars_left, scalars_right}
use Rattle.version_glyphs.specs.Glyphs.{Glyph, AreMaximal, glyphs, with_format}
use Rattle.version_glyphs.specs.Replacements.{formats}
use Rattle.version_pieces.specs.Along.{IsAlong, paired, spans_along}
use Rattle.version_glyphs.proofs.Made.{texts_in}
use Rattle.text_pieces.proofs.Texts.{scalars_of}

-- the characters of a text are scalar values
pub scalars_are : (cs : List ℕ) → AreCharacters cs → scalars cs ≡ true
scalars_are cs (text, utf8, same) = ap scalars (sym same) ∙ scalars_of text utf8

-- ---- characters with their formats
pub paired_append : (cs ds : List ℕ) (fs gs : List Format) → length cs ≡ length fs → paired (cs ++ ds) (fs ++ gs) ≡ paired cs fs ++ paired ds gs
paired_append [] ds [] gs e = refl
paired_append [] ds (f ∷ fs) gs e = absurd (omega arith)
paired_append (c ∷ cs) ds [] gs e = absurd (omega arith)
paired_append (c ∷ cs) ds (f ∷ fs) gs e =
    let g : Glyph = record { character = c; format = f } in
    ap (λ l. g ∷ l) (paired_append cs ds fs gs (omega arith))

pub length_paired : (cs : List ℕ) (fs : List Format) → length cs ≡ length fs → length (paired cs fs) ≡ length cs
length_paired [] fs e = refl
length_paired (c ∷ cs) [] e = absurd (omega arith)
length_paired (c ∷ cs) (f ∷ fs) e = omega (arith, length_paired cs fs (omega arith))

pub formats_paired : (cs : List ℕ) (fs : List Format) → length cs ≡ length fs → formats (paired cs fs) ≡ fs
formats_paired [] [] fits = refl
formats_paired [] (f ∷ fs) fits = absurd (omega arith)
formats_paired (c ∷ cs) [] fits = absurd (omega arith)
formats_paired (c ∷ cs) (f ∷ fs) fits = ap (λ l. f ∷ l) (formats_paired cs fs (omega arith))

pub take_paired : (n : ℕ) (cs : List ℕ) (fs : List Format) → take n (paired cs fs) ≡ paired (take n cs) (take n fs)
take_paired zero cs fs = refl
take_paired (suc n) [] fs = refl
take_paired (suc n) (c ∷ cs) [] = refl
take_paired (suc n) (c ∷ cs) (f ∷ fs) =
    let g : Glyph = record { character = c; format = f } in
    ap (λ l. g ∷ l) (take_paired n cs fs)

none_paired : (cs : List ℕ) → paired cs [] ≡ []
none_paired [] = refl
none_paired (c ∷ cs) = refl

pub drop_paired : (n : ℕ) (cs : List ℕ) (fs : List Format) → drop n (paired cs fs) ≡ paired (drop n cs) (drop n fs)
drop_paired zero cs fs = refl
drop_paired (suc n) [] fs = refl
drop_paired (suc n) (c ∷ cs) [] = sym (none_paired (drop n cs))
drop_paired (suc n) (c ∷ cs) (f ∷ fs) = drop_paired n cs fs

pub paired_one : (cs : List ℕ) (f : Format) → paired cs (replicate (length cs) f) ≡ with_format f cs
paired_one [] f = refl
paired_one (c ∷ cs) f =
    let g : Glyph = record { character = c; format = f } in
    ap (λ l. g ∷ l) (paired_one cs f)

-- a window of characters and one of formats
pub paired_window : (cs new : List ℕ) (fs more : List Format) (from to : ℕ) → length cs ≡ length fs → length new ≡ length more
    → paired (take from cs ++ (new ++ drop to cs)) (take from fs ++ (more ++ drop to fs)) ≡ take from (paired cs fs) ++ (paired new more ++ drop to (paired cs fs))
paired_window cs new fs more from to e f =
    let front : length (take from cs) ≡ length (take from fs) = length_took from cs fs e in
    paired_append (take from cs) (new ++ drop to cs) (take from fs) (more ++ drop to fs) front
    ∙ ap (λ l. paired (take from cs) (take from fs) ++ l) (paired_append new (drop to cs) more (drop to fs) f)
    ∙ ap (λ l. l ++ (paired new more ++ paired (drop to cs) (drop to fs))) (sym (take_paired from cs fs))
    ∙ ap (λ l. take from (paired cs fs) ++ (paired new more ++ l)) (sym (drop_paired to cs fs))
  where
    length_took : (n : ℕ) (xs : List ℕ) (ys : List Format) → length xs ≡ length ys → length (take n xs) ≡ length (take n ys)
    length_took zero xs ys same = refl
    length_took (suc n) [] [] same = refl
    length_took (suc n) [] (y ∷ ys) same = absurd (omega arith)
    length_took (suc n) (x ∷ xs) [] same = absurd (omega arith)
    length_took (suc n) (x ∷ xs) (y ∷ ys) same = omega (arith, length_took n xs ys (omega arith))

-- ---- spans along runs
pub count_cons : (r : Run) (rs : List Run) → character_count (r ∷ rs) ≡ r.characters + character_count rs
count_cons r rs = sum_by-cons (λ (run : Run). run.characters) r rs

pub parted : (n : ℕ) (cs : List ℕ) → scalars cs ≡ true → (scalars (take n cs) ≡ true) × (scalars (drop n cs) ≡ true)
parted n cs ok =
    let whole : scalars (take n cs ++ drop n cs) ≡ true = ap scalars (take-append-drop n cs) ∙ ok in
    (scalars_left (take n cs) (drop n cs) whole, scalars_right (take n cs) (drop n cs) whole)

pub glyphs_along : (rs : List Run) (cs : List ℕ) → scalars cs ≡ true → character_count rs ≡ length cs → glyphs (spans_along rs cs) ≡ paired cs (formats_of rs)
glyphs_along [] [] ok e = refl
glyphs_along [] (c ∷ cs) ok e = absurd (omega arith)
glyphs_along (r ∷ rs) cs ok e =
    let n : ℕ = r.characters in
    let all : n + character_count rs ≡ length cs = sym (count_cons r rs) ∙ e in
    let size : length (take n cs) ≡ n = length-take-le n cs (omega arith) in
    let fits : length (take n cs) ≡ length (replicate n r.format) = size ∙ sym (length-replicate n r.format) in
    let p = parted n cs ok in
    let first : with_format r.format (chars (encode_utf8_all (take n cs))) ≡ paired (take n cs) (replicate n r.format) =
    ap (with_format r.format) (chars-encodes (take n cs) p.0) ∙ sym (paired_one (take n cs) r.format)
    ∙ ap (λ k. paired (take n cs) (replicate k r.format)) size in
    ap (λ l. l ++ glyphs (spans_along rs (drop n cs))) first
    ∙ ap (λ l. paired (take n cs) (replicate n r.format) ++ l) (glyphs_along rs (drop n cs) p.1 (omega (arith, length-drop n cs)))
    ∙ sym (paired_append (take n cs) (drop n cs) (replicate n r.format) (formats_of rs) fits)
    ∙ ap (λ l. paired l (replicate n r.format ++ formats_of rs)) (take-append-drop n cs)

pub length_along : (rs : List Run) (cs : List ℕ) → length (spans_along rs cs) ≡ length rs
length_along [] cs = refl
length_along (r ∷ rs) cs = omega (arith, length_along rs (drop r.characters cs))

pub joined_along : (rs : List Run) (cs : List ℕ) → character_count rs ≡ length cs → joined (spans_along rs cs) ≡ encode_utf8_all cs
joined_along [] [] e = refl
joined_along [] (c ∷ cs) e = absurd (omega arith)
joined_along (r ∷ rs) cs e =
    let n : ℕ = r.characters in
    let all : n + character_count rs ≡ length cs = sym (count_cons r rs) ∙ e in
    ap (λ l. encode_utf8_all (take n cs) ++ l) (joined_along rs (drop n cs) (omega (arith, length-drop n cs)))
    ∙ sym (encodes-append (take n cs) (drop n cs)) ∙ ap encode_utf8_all (take-append-drop n cs)

first_along : (rs : List Run) (cs : List ℕ) (x : Span) → slice_get (spans_along rs cs) 0 ≡ Some x → (r : Run) × (slice_get rs 0 ≡ Some r) × (r.format ≡ x.format)
first_along [] cs x g = absurd (none-some x g)
first_along (r ∷ rs) cs x g =
    let span : Span = record { text = encode_utf8_all (take r.characters cs); format = r.format } in
    (r, refl, ap (λ (s : Span). s.format) (same_Some span x g))

pub maximal_along : (rs : List Run) (cs : List ℕ) → AreMaximalRuns rs → scalars cs ≡ true → character_count rs ≡ length cs → AreMaximal (spans_along rs cs)
maximal_along [] cs m ok e = tt
maximal_along (r ∷ rs) cs m ok e =
    let n : ℕ = r.characters in
    let all : n + character_count rs ≡ length cs = sym (count_cons r rs) ∙ e in
    let size : length (take n cs) ≡ n = length-take-le n cs (omega arith) in
    let p = parted n cs ok in
    let span : Span = record { text = encode_utf8_all (take n cs); format = r.format } in (
      record { some = omega (arith, m.0, length-le-encodes (take n cs)); utf8 = (take n cs, (p.0, refl)) },
      (λ i x y last g h same.
          let next = first_along rs (drop n cs) y h in
          let one : i ≡ 0 = omega arith in
          let is : span ≡ x = same_Some span x (ap (slice_get (span ∷ [])) (sym one) ∙ g) in
          m.1 next.0 next.1 (ap (λ (s : Span). s.format) is ∙ same ∙ sym next.2)),
      maximal_along rs (drop n cs) m.2 p.1 (omega (arith, length-drop n cs)),
    )

-- ---- rows of a text
pub rows_paired : (spans : List Span) (start : ℕ) → All (λ s. IsUtf8 s.text) spans → glyphs spans ≡ paired (chars (joined spans)) (formats_in (rows_from start spans))
rows_paired [] start texts = ap (λ (cs : List ℕ). paired cs []) (sym chars-nil)
rows_paired (x ∷ xs) start texts =
    let utf8 : IsUtf8 x.text = All-head (λ s. IsUtf8 s.text) x xs texts in
    let first : List ℕ = chars x.text in
    let rest : List ℕ = chars (joined xs) in
    let formats : List Format = formats_in (rows_from (start + length x.text) xs) in
    let fits : length first ≡ length (replicate (length first) x.format) = sym (length-replicate (length first) x.format) in
    ap (λ l. l ++ glyphs xs) (sym (paired_one first x.format))
    ∙ ap (λ l. paired first (replicate (length first) x.format) ++ l) (rows_paired xs (start + length x.text) (All-tail (λ s. IsUtf8 s.text) x xs texts))
    ∙ sym (paired_append first rest (replicate (length first) x.format) formats fits)
    ∙ ap (λ l. paired l (replicate (length first) x.format ++ formats)) (sym (chars-append x.text (joined xs) utf8))

pub rows_counted : (spans : List Span) (start : ℕ) → All (λ s. IsUtf8 s.text) spans → length (chars (joined spans)) ≡ length (formats_in (rows_from start spans))
rows_counted [] start texts = ap length chars-nil
rows_counted (x ∷ xs) start texts =
    let utf8 : IsUtf8 x.text = All-head (λ s. IsUtf8 s.text) x xs texts in
    let rest = rows_counted xs (start + length x.text) (All-tail (λ s. IsUtf8 s.text) x xs texts) in
    omega (
      arith,
      ap length (chars-append x.text (joined xs) utf8),
      length-append (chars x.text) (chars (joined xs)),
      length-append (replicate (length (chars x.text)) x.format) (formats_in (rows_from (start + length x.text) xs)),
      length-replicate (length (chars x.text)) x.format,
    )

-- what a text with its rows shows
pub record AreShown (text : List ℕ) (rows : List Row) : Type 0 where
  pub glyphs_are : glyphs (spans_in text rows) ≡ paired (chars text) (formats_in rows)
  pub fits : length (chars text) ≡ length (formats_in rows)

pub shown : (text : List ℕ) (rows : List Row) → IsUtf8 text → IsWhole text rows → AreShown text rows
shown text rows utf8 whole =
    let spans : List Span = spans_in text rows in
    let texts : All (λ s. IsUtf8 s.text) spans = texts_in text rows utf8 whole.limits.ordered whole.limits.starts whole.limits.ends in
    let is : paired (chars (joined spans)) (formats_in (rows_from 0 spans)) ≡ paired (chars text) (formats_in rows) =
    ap (λ t. paired (chars t) (formats_in (rows_from 0 spans))) (sym whole.layout.whole) ∙ ap (λ (r : List Row). paired (chars text) (formats_in r)) (sym whole.layout.end_to_end) in
    record {
      glyphs_are = rows_paired spans 0 texts ∙ is;
      fits = ap (λ t. length (chars t)) whole.layout.whole ∙ rows_counted spans 0 texts ∙ ap (λ (r : List Row). length (formats_in r)) (sym whole.layout.end_to_end);
    }

-- ---- a window of characters and runs
pub window_glyphs : (cs ds new : List ℕ) (rs qs : List Run) (more : List Format) (from to : ℕ) → IsAlong cs rs → IsAlong ds qs → length new ≡ length more
    → ds ≡ take from cs ++ (new ++ drop to cs) → formats_of qs ≡ take from (formats_of rs) ++ (more ++ drop to (formats_of rs))
    → glyphs (spans_along qs ds) ≡ take from (glyphs (spans_along rs cs)) ++ (paired new more ++ drop to (glyphs (spans_along rs cs)))
window_glyphs cs ds new rs qs more from to a b fits is formats =
    let before : glyphs (spans_along rs cs) ≡ paired cs (formats_of rs) = glyphs_along rs cs (scalars_are cs a.spelt) a.whole in
    let size : length cs ≡ length (formats_of rs) = sym (length_formats rs ∙ a.whole) in
    glyphs_along qs ds (scalars_are ds b.spelt) b.whole
    ∙ ap (λ l. paired l (formats_of qs)) is
    ∙ ap (λ (l : List Format). paired (take from cs ++ (new ++ drop to cs)) l) formats
    ∙ paired_window cs new (formats_of rs) more from to size fits
    ∙ ap (λ l. take from l ++ (paired new more ++ drop to l)) (sym before)

-- the characters of the spans
pub count_along : (cs : List ℕ) (rs : List Run) → IsAlong cs rs → length (glyphs (spans_along rs cs)) ≡ length cs
count_along cs rs a =
    ap length (glyphs_along rs cs (scalars_are cs a.spelt) a.whole) ∙ length_paired cs (formats_of rs) (sym (length_formats rs ∙ a.whole))

-- the formats of the characters
pub formats_along : (cs : List ℕ) (rs : List Run) → IsAlong cs rs → formats (glyphs (spans_along rs cs)) ≡ formats_of rs
formats_along cs rs a =
    ap formats (glyphs_along rs cs (scalars_are cs a.spelt) a.whole) ∙ formats_paired cs (formats_of rs) (omega (arith, a.whole, length_formats rs))

-- the span of an index
pub get_along : (rs : List Run) (cs : List ℕ) (i : ℕ) (r : Run) → slice_get rs i ≡ Some r
    → slice_get (spans_along rs cs) i ≡ Some (record { text = encode_utf8_all (take r.characters (drop (character_count (take i rs)) cs)); format = r.format })
get_along [] cs i r is = absurd (none-some r is)
get_along (q ∷ rs) cs zero r is =
    ap (λ (x : Run). let span : Span = record { text = encode_utf8_all (take x.characters cs); format = x.format } in Some span) (same_Some q r is)
get_along (q ∷ rs) cs (suc i) r is =
    let on : q.characters + character_count (take i rs) ≡ character_count (take (suc i) (q ∷ rs)) = sym (count_cons q (take i rs)) in
    get_along rs (drop q.characters cs) i r is
    ∙ ap (λ (l : List ℕ). let span : Span = record { text = encode_utf8_all (take r.characters l); format = r.format } in Some span)
    (drop-drop (character_count (take i rs)) q.characters cs ∙ ap (λ (n : ℕ). drop n cs) on)

-- ---- a text's length after a window
bytes_few : (cs : List ℕ) → length (encode_utf8_all cs) ≤ 4 * length cs
bytes_few [] = omega arith
bytes_few (c ∷ cs) =
    let rest = bytes_few cs in
    let first = len_utf8_bounds c in
    omega (arith, length-append (encode c) (encode_utf8_all cs), length-encode c, first.1)

pub bytes_after : (cs new : List ℕ) (from to : ℕ) → from ≤ to → to ≤ length cs → length cs + length new ≤ 262144
    → length (encode_utf8_all (take from cs ++ (new ++ drop to cs))) ≤ 2097152
bytes_after cs new from to order within few =
    omega (
      arith,
      bytes_few (take from cs ++ (new ++ drop to cs)),
      length-append (take from cs) (new ++ drop to cs),
      length-append new (drop to cs),
      length-take-le from cs (omega arith),
      length-drop to cs,
    )

-- a window of characters and runs leaves a format for each character
pub whole_after : (cs ds new : List ℕ) (rs qs : List Run) (more : List Format) (from to : ℕ) → character_count rs ≡ length cs → from ≤ to → to ≤ length cs
    → length new ≡ length more → ds ≡ take from cs ++ (new ++ drop to cs) → formats_of qs ≡ take from (formats_of rs) ++ (more ++ drop to (formats_of rs))
    → character_count qs ≡ length ds
whole_after cs ds new rs qs more from to e order within fits is formats =
    omega (
      arith,
      length_formats rs,
      length_formats qs,
      ap length is,
      ap length formats,
      length-append (take from cs) (new ++ drop to cs),
      length-append new (drop to cs),
      length-take-le from cs (omega arith),
      length-drop to cs,
      length-append (take from (formats_of rs)) (more ++ drop to (formats_of rs)),
      length-append more (drop to (formats_of rs)),
      length-take-le from (formats_of rs) (omega (arith, length_formats rs)),
      length-drop to (formats_of rs),
    )

-- what stands there already
pub put_same : {X : Type 0} (xs new : List X) (from to : ℕ) → from ≤ to → slice_range xs from to ≡ new → xs ≡ take from xs ++ (new ++ drop to xs)
put_same {X} xs new from to order same =
    sym (take-append-drop from xs) ∙ ap (λ (l : List X). take from xs ++ l) (drop_split xs from to order)
    ∙ ap (λ (l : List X). take from xs ++ (l ++ drop to xs)) same
