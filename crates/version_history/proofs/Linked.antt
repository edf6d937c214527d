-- Links of a version of which some spans stand as they stood in the one before it.
use Rattle.std.proofs.Common.{◌≡◌, ◌∙◌, ℕ, ◌+◌, ◌-◌, ◌<◌, ◌≤◌, List, Some, get_or, length, ap, refl, subst, sym, arith, ⊎_elim}
use Rattle.std.specs.List.{slice_get}
use Rattle.std.proofs.lemmas.Bool.{cases_lt}
use Rattle.std.proofs.lemmas.List.{get_or-drop, get_or-take, length-map}
use Rattle.std.proofs.lemmas.Option.{get_or_from_slice_get, slice_get_read, slice_get_within}
use Rattle.span_flatten.specs.declared.version.Row.{Row}
use Rattle.span_flatten.specs.Spans.{Span}
use Rattle.span_flatten.specs.Version.{Version, span_at, spans_of}
use Rattle.version_pieces.specs.Alike.{AreAlike}
use Rattle.version_pieces.specs.declared.alike.Alike.{Alike}
use Rattle.version_pieces.specs.Links.{HasLink, HaveLinks}

-- what is read at an index stands there
stands_at : (spans : List Span) (i : ℕ) (span : Span) → i < length spans → get_or spans i span ≡ span → slice_get spans i ≡ Some span
stands_at spans i span less is = slice_get_read spans (length spans) i span refl less (sym is)

-- a span at the front was there
pub front_at : (older newer : List Span) (front behind i : ℕ) (span : Span) → AreAlike older newer front behind → i < front
    → slice_get newer i ≡ Some span → slice_get older i ≡ Some span
front_at older newer front behind i span alike less is =
    let fits = alike.fits_older in
    stands_at older i span (omega arith)
    (sym (get_or-take front older i span less) ∙ ap (λ (l : List Span). get_or l i span) alike.front_stands ∙ get_or-take front newer i span less
    ∙ get_or_from_slice_get newer i span span is)

-- a span behind was there, as far from the end
pub behind_at : (older newer : List Span) (front behind i : ℕ) (span : Span) → AreAlike older newer front behind → length newer - behind ≤ i
    → slice_get newer i ≡ Some span → slice_get older (length older - behind + (i - (length newer - behind))) ≡ Some span
behind_at older newer front behind i span alike high is =
    let fits = alike.fits_older in
    let fits_newer = alike.fits_newer in
    let within : i < length newer = slice_get_within newer i span is in
    let at : ℕ = i - (length newer - behind) in
    let there : length newer - behind + at ≡ i = omega arith in
    stands_at older (length older - behind + at) span (omega arith)
    (sym (get_or-drop (length older - behind) older at span) ∙ ap (λ (l : List Span). get_or l at span) alike.behind_stands
    ∙ get_or-drop (length newer - behind) newer at span ∙ ap (λ n. get_or newer n span) there ∙ get_or_from_slice_get newer i span span is)

-- the links of the spans that stand were links, and those of the others are
pub still_links : (older newer : List Span) (front behind last : ℕ) → AreAlike older newer front behind → HaveLinks older → last ≡ length newer - behind
    → ((i : ℕ) (span : Span) → front ≤ i → i < last → slice_get newer i ≡ Some span → HasLink span) → HaveLinks newer
still_links older newer front behind last alike links e middle i span is =
    ⊎_elim
    (λ (low : i < front). links i span (front_at older newer front behind i span alike low is))
    (λ (high : front ≤ i). ⊎_elim
    (λ (low : i < last). middle i span high low is)
    (λ (behind_it : last ≤ i).
    links (length older - behind + (i - (length newer - behind))) span (behind_at older newer front behind i span alike (omega arith) is))
    (cases_lt i last))
    (cases_lt i front)

-- all of them are gone over
pub all_links : (spans : List Span) (count : ℕ) → count ≡ length spans
    → ((i : ℕ) (span : Span) → 0 ≤ i → i < count → slice_get spans i ≡ Some span → HasLink span) → HaveLinks spans
all_links spans count e each i span is =
    let within : i < length spans = slice_get_within spans i span is in
    each i span (omega arith) (omega arith) is

-- there are as many spans as rows
pub as_many : (version : Version) → length (spans_of version) ≡ length version.rows
as_many version = length-map version.rows (λ (row : Row). span_at version.text row)

-- so the next version has them, of which those were gone over that don't stand
pub next_links : (old before version next : Version) (known alike : Alike) (count : ℕ) → old ≡ before → version ≡ next → known ≡ alike → count ≡ length version.rows → HaveLinks (spans_of old)
    → AreAlike (spans_of before) (spans_of next) alike.front alike.behind
    → ((i : ℕ) (span : Span) → known.front ≤ i → i < count - known.behind → slice_get (spans_of version) i ≡ Some span → HasLink span) → HaveLinks (spans_of version)
next_links old before version next known alike count o n a e links stand middle =
    let here : AreAlike (spans_of old) (spans_of version) known.front known.behind =
    subst (λ (v : Version). AreAlike (spans_of v) (spans_of version) known.front known.behind) (sym o)
    (subst (λ (v : Version). AreAlike (spans_of before) (spans_of v) known.front known.behind) (sym n)
    (subst (λ (k : Alike). AreAlike (spans_of before) (spans_of next) k.front k.behind) (sym a) stand)) in
    let last : count - known.behind ≡ length (spans_of version) - known.behind = omega (arith, e, as_many version) in
    still_links (spans_of old) (spans_of version) known.front known.behind (count - known.behind) here links last middle
