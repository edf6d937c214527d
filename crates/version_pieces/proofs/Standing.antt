-- Spans that stay as they are before windows and behind them.
use Rattle.std.proofs.Common.{◌≡◌, ℕ, zero, suc, ◌+◌, ◌-◌, ◌<◌, ◌≤◌, true, inl, inr, List, [], ◌∷◌, ◌++◌, None, Some, length, take, drop, refl, sym, ap, subst, ◌∙◌, arith, append_assoc, length-append, encode_utf8_all}
use Rattle.std.specs.List.{slice_get, slice_range}
use Rattle.std.proofs.Math.Seq.{drop-append_seam, take-add, take-append_seam}
use Rattle.std.proofs.Math.Utf8.{scalars}
use Rattle.std.proofs.lemmas.Bool.{cases_lt}
use Rattle.std.proofs.lemmas.List.{length-drop, length-take-le, take_all}
use Rattle.std.proofs.lemmas.List.Sums.{sum_by-take-le}
use Rattle.std.proofs.lemmas.Option.{none-some, same_Some}
use Rattle.std.proofs.lemmas.Str.{chars-encodes}
use Rattle.mark_anchors.proofs.Lists.{item_at}
use Rattle.span_flatten.specs.Spans.{Span}
use Rattle.format_runs.specs.Runs.{Run, AreMaximal as AreMaximalRuns, IsOver, character_count}
use Rattle.version_glyphs.specs.Glyphs.{AreMaximal, Glyph, glyphs, glyphs_of}
use Rattle.version_glyphs.specs.Replacements.{put_all}
use Rattle.version_glyphs.specs.declared.replacement.Replacement.{Replacement}
use Rattle.version_glyphs.proofs.AsOne.{as_one}
use Rattle.version_glyphs.proofs.Contents.{one_maximal}
use Rattle.version_glyphs.proofs.Glyphs.{length-glyphs_of, some_characters}
use Rattle.version_glyphs.proofs.Staying.{IsBetween, IsWindow, glyphs_append, stays}
use Rattle.version_pieces.specs.Alike.{AreAlike, AreAround, AreBegun, characters_before}
use Rattle.version_pieces.specs.Along.{IsAlong, spans_along}
use Rattle.version_pieces.specs.Putting.{CanTake}
use Rattle.version_pieces.proofs.Along.{count_cons, length_along, parted, put_same, scalars_are}

-- ---- spans along runs
take_along : (rs : List Run) (cs : List ℕ) (i : ℕ) → take i (spans_along rs cs) ≡ spans_along (take i rs) cs
take_along rs cs zero = refl
take_along [] cs (suc i) = refl
take_along (r ∷ rs) cs (suc i) =
    let span : Span = record { text = encode_utf8_all (take r.characters cs); format = r.format } in
    ap (λ (l : List Span). span ∷ l) (take_along rs (drop r.characters cs) i)

count_first : (rs : List Run) (cs : List ℕ) → scalars cs ≡ true → character_count rs ≤ length cs → length (glyphs (spans_along rs cs)) ≡ character_count rs
count_first [] cs ok le = refl
count_first (r ∷ rs) cs ok le =
    let n : ℕ = r.characters in
    let all : character_count (r ∷ rs) ≡ n + character_count rs = count_cons r rs in
    let size : length (take n cs) ≡ n = length-take-le n cs (omega (arith, all, le)) in
    let p = parted n cs ok in
    let span : Span = record { text = encode_utf8_all (take n cs); format = r.format } in
    let own : length (glyphs_of span) ≡ n = length-glyphs_of span ∙ ap length (chars-encodes (take n cs) p.0) ∙ size in
    let rest : length (glyphs (spans_along rs (drop n cs))) ≡ character_count rs = count_first rs (drop n cs) p.1 (omega (arith, all, le, length-drop n cs)) in
    omega (arith, length-append (glyphs_of span) (glyphs (spans_along rs (drop n cs))), own, rest, all)

-- the characters before a span are those of the runs before its run
pub counted_along : (cs : List ℕ) (rs : List Run) (i : ℕ) → IsAlong cs rs → characters_before (spans_along rs cs) i ≡ character_count (take i rs)
counted_along cs rs i a =
    ap (λ (l : List Span). length (glyphs l)) (take_along rs cs i)
    ∙ count_first (take i rs) cs (scalars_are cs a.spelt) (omega (arith, sum_by-take-le (λ (r : Run). r.characters) rs i, a.whole))

-- each run has a character, so that no more runs end at a place or before it than there are characters before it
pub index_few : (rs : List Run) (place index : ℕ) → AreMaximalRuns rs → IsOver rs place index → index ≤ place
index_few rs place index m over = omega (arith, few rs index m over.within, over.begun)
  where
    few : (runs : List Run) (i : ℕ) → AreMaximalRuns runs → i ≤ length runs → i ≤ character_count (take i runs)
    few runs zero m le = omega arith
    few [] (suc i) m le = absurd (omega (arith, le))
    few (r ∷ runs) (suc i) m le = omega (arith, m.0, count_cons r (take i runs), few runs i m.2 (omega (arith, le)))

-- a span more begins before the place behind a character of it
pub begun_along : (cs : List ℕ) (rs : List Run) (place last index : ℕ) → IsAlong cs rs → place ≡ last + 1 → place ≤ length cs → IsOver rs last index
    → AreBegun (spans_along rs cs) place (index + 1)
begun_along cs rs place last index a is fits over = record {
  within = omega (arith, more, length_along rs cs);
  last = λ _. omega (arith, over.begun, is, ap (characters_before (spans_along rs cs)) one, counted_along cs rs index a);
  next = let low : last < character_count (take (index + 1) rs) = over.unended more in omega (arith, low, is, counted_along cs rs (index + 1) a);
}
  where
    one : (index + 1) - 1 ≡ index
    one = omega arith

    more : index < length rs
    more = elim (cases_lt index (length rs)) [
      | inl h ↦ h
      | inr past ↦ absurd (omega (arith, over.begun, is, fits, a.whole, ap character_count (take_all index rs past)))
    ]

-- ---- spans around a range
-- each span has a character
rises : (spans : List Span) (i k : ℕ) → AreMaximal spans → i < k → k ≤ length spans → characters_before spans i < characters_before spans k
rises [] i k m less le = absurd (omega (arith, less, le))
rises (x ∷ spans) i zero m less le = absurd (omega (arith, less))
rises (x ∷ spans) zero (suc k) m less le = omega (arith, some_characters x m.0, length-glyphs_of x, length-append (glyphs_of x) (glyphs (take k spans)))
rises (x ∷ spans) (suc i) (suc k) m less le =
    let rest : characters_before spans i < characters_before spans k = rises spans i k m.2 (omega (arith, less)) (omega (arith, le)) in
    omega (arith, rest, length-append (glyphs_of x) (glyphs (take i spans)), length-append (glyphs_of x) (glyphs (take k spans)))

pub around_along : (cs : List ℕ) (rs : List Run) (from to front begun behind : ℕ) → IsAlong cs rs → AreMaximal (spans_along rs cs) → from ≤ to → IsOver rs from front
    → AreBegun (spans_along rs cs) to begun → behind ≡ length (spans_along rs cs) - begun → AreAround (spans_along rs cs) from to front behind
around_along cs rs from to front begun behind a m order over first is = record {
  fits = omega (arith, is, within, first.within);
  ended = omega (arith, over.begun, counted_along cs rs front a);
  unended = λ less.
      let high : from < character_count (take (front + 1) rs) = over.unended (omega (arith, less, length_along rs cs)) in
      omega (arith, high, counted_along cs rs (front + 1) a);
  behind_range = subst (λ (n : ℕ). AreBegun spans to n) (omega (arith, is, first.within)) first;
}
  where
    spans : List Span
    spans = spans_along rs cs

    within : front ≤ begun
    within = elim (cases_lt begun front) [
      | inr le ↦ le
      | inl less ↦
          absurd
          (let rise : characters_before spans begun < characters_before spans front = rises spans begun front m less (omega (arith, over.within, length_along rs cs)) in
          omega (arith, rise, first.next, order, over.begun, counted_along cs rs front a))
    ]

-- ---- spans that stay
alike_around : (older newer : List Span) (from to front behind : ℕ) → AreMaximal older → AreMaximal newer → IsWindow (glyphs older) (glyphs newer) from to
    → AreAround older from to front behind → AreAlike older newer front behind
alike_around older newer from to front behind m n w around = record {
  fits_older = around.fits;
  fits_newer = omega (arith, size);
  front_stands =
      sym (ap (take front) kept.are ∙ ap (λ (i : ℕ). take i (first ++ (kept.within ++ last))) (sym first_size) ∙ take-append_seam first (kept.within ++ last));
  behind_stands =
      sym
      (ap (drop (length newer - behind)) (kept.are ∙ sym (append_assoc first kept.within last))
      ∙ ap (λ (i : ℕ). drop i ((first ++ kept.within) ++ last)) (omega (arith, size, first_size, length-append first kept.within))
      ∙ drop-append_seam (first ++ kept.within) last);
}
  where
    k : ℕ
    k = length older - behind

    first : List Span
    first = take front older

    mid : List Span
    mid = slice_range older front k

    last : List Span
    last = drop k older

    first_size : length first ≡ front
    first_size = length-take-le front older (omega (arith, around.fits))

    last_size : length last ≡ behind
    last_size = length-drop k older ∙ omega (arith, around.fits)

    are : older ≡ first ++ (mid ++ last)
    are = put_same older mid front k (omega (arith, around.fits)) refl

    both : take k older ≡ first ++ mid
    both = let sum : k ≡ front + (k - front) = omega (arith, around.fits) in ap (λ (i : ℕ). take i older) sum ∙ take-add front (k - front) older

    high : to ≤ length (glyphs first) + length (glyphs mid)
    high =
        omega (
          arith,
          around.behind_range.next,
          ap (λ (l : List Span). length (glyphs l)) both,
          ap length (glyphs_append first mid),
          length-append (glyphs first) (glyphs mid),
        )

    kept : IsBetween first last newer
    kept = stays older newer first mid last from to w m are around.ended high n

    size : length newer ≡ front + (length kept.within + behind)
    size =
        ap length kept.are ∙ length-append first (kept.within ++ last)
        ∙ omega (arith, first_size, last_size, length-append kept.within last)

-- ---- windows
-- the windows are one from where the first one begins up to where the last one ends
pub window_of : (windows : List Replacement) (first last : Replacement) (gs : List Glyph) → CanTake gs windows → slice_get windows 0 ≡ Some first
    → slice_get windows (length windows - 1) ≡ Some last → IsWindow gs (put_all windows gs) first.from last.to
window_of [] first last gs can f l = absurd (none-some first f)
window_of (r ∷ rs) first last gs can f l =
    let end : length rs ≡ length (r ∷ rs) - 1 = omega arith in
    subst (λ (z : Replacement). IsWindow gs (put_all (r ∷ rs) gs) z.from last.to) (same_Some r first f)
    (as_one r last rs gs 0 (ap (slice_get (r ∷ rs)) end ∙ l) can.order can.edged)

pub alike_windows : (older next : List Span) (windows : List Replacement) (first last : Replacement) (front behind : ℕ) → AreMaximal older → AreMaximal next
    → CanTake (glyphs older) windows → slice_get windows 0 ≡ Some first → slice_get windows (length windows - 1) ≡ Some last
    → AreAround older first.from last.to front behind → glyphs next ≡ put_all windows (glyphs older) → AreAlike older next front behind
alike_windows older next windows first last front behind m n can f l around same =
    alike_around older next first.from last.to front behind m n
    (subst (λ (gs : List Glyph). IsWindow (glyphs older) gs first.from last.to) (sym same) (window_of windows first last (glyphs older) can f l)) around

pub none_of : (windows : List Replacement) (i : ℕ) → (0 < length windows → i < length windows) → slice_get windows i ≡ None → windows ≡ []
none_of [] i inside none = refl
none_of (r ∷ rs) i inside none = let at = item_at (r ∷ rs) i (inside (omega arith)) in absurd (none-some at.0 (sym none ∙ at.1))

-- without a window all spans stay
pub alike_all : (older next : List Span) (windows : List Replacement) (front : ℕ) → AreMaximal older → AreMaximal next → windows ≡ [] → front ≡ length older
    → glyphs next ≡ put_all windows (glyphs older) → AreAlike older next front 0
alike_all older next windows front m n none is same =
    let one : older ≡ next = one_maximal older next m n (sym (same ∙ ap (λ (l : List Replacement). put_all l (glyphs older)) none)) in
    subst (λ (l : List Span). AreAlike older l front 0) one
    (record { fits_older = omega (arith, is); fits_newer = omega (arith, is); front_stands = refl; behind_stands = refl })
