-- The spans of a version as they are lent, one by one and as they are left.
use Rattle.std.proofs.Common.{◌≡◌, ℕ, zero, suc, ◌+◌, ◌-◌, ◌<◌, ◌≤◌, List, [], ◌∷◌, Option, Some, None, length, drop, refl, sym, ap, ◌∙◌, arith}
use Rattle.std.specs.List.{slice_get, enumerate_from}
use Rattle.std.specs.Option.{option_map}
use Rattle.std.proofs.lemmas.Option.{none-some, same_Some, slice_get_within, slice_get-map}
use Rattle.std.proofs.lemmas.List.{length-drop, length-map, length-take}
use Rattle.std.proofs.lemmas.List.FromFn.{length-enumerate_from}
use Rattle.mark_anchors.specs.Formatting.{Format}
use Rattle.span_flatten.specs.declared.version.Row.{Row}
use Rattle.span_flatten.specs.Spans.{Span}
use Rattle.span_flatten.specs.Version.{Version, IsWhole, span_at, spans_of}
use Rattle.span_view.specs.Views.{SpanView, view_of, view_at, views, IsWithinLimits}

pub length-views : (version : Version) → length (views version) ≡ length version.rows
length-views version =
    length-map (enumerate_from 0 version.rows) (λ indexed. view_of version indexed.0 indexed.1) ∙ length-enumerate_from 0 version.rows

-- what stands at an index
pub views_at : (version : Version) (i : ℕ) → slice_get (views version) i ≡ view_at version i
views_at version i =
    let see : (ℕ × Row) → SpanView = λ indexed. view_of version indexed.0 indexed.1 in
    let same : 0 + i ≡ i = omega arith in
    slice_get-map see (enumerate_from 0 version.rows) i ∙ from 0 version.rows i
    ∙ ap (λ n. option_map (λ row. view_of version n row) (slice_get version.rows i)) same
  where
    from : (n : ℕ) (rows : List Row) (i : ℕ) → option_map (λ (indexed : ℕ × Row). view_of version indexed.0 indexed.1) (slice_get (enumerate_from n rows) i)
        ≡ option_map (λ row. view_of version (n + i) row) (slice_get rows i)
    from n [] i = refl
    from n (row ∷ rows) zero = let same : n ≡ n + zero = omega arith in ap (λ m. Some (view_of version m row)) same
    from n (row ∷ rows) (suc i) =
        let same : (n + 1) + i ≡ n + suc i = omega arith in
        from (n + 1) rows i ∙ ap (λ m. option_map (λ row. view_of version m row) (slice_get rows i)) same

pub viewed : (version : Version) (i : ℕ) (row : Row) → slice_get version.rows i ≡ Some row → slice_get (views version) i ≡ Some (view_of version i row)
viewed version i row g = views_at version i ∙ ap (option_map (λ w. view_of version i w)) g

pub row_at : (version : Version) (i : ℕ) → i < length version.rows → (row : Row) × (slice_get version.rows i ≡ Some row)
row_at version i within = first version.rows i within
  where
    first : (rows : List Row) (i : ℕ) → i < length rows → (row : Row) × (slice_get rows i ≡ Some row)
    first [] i h = absurd (omega arith)
    first (x ∷ xs) zero h = (x, refl)
    first (x ∷ xs) (suc i) h = first xs i (omega arith)

-- ---- a span as it is lent
abbrev pub seen_as : Version → ℕ → Span → SpanView
seen_as version i span = record { text = span.text; format = span.format; index = i; count = length version.rows; version = version.number }

pub seen_at : (version : Version) (i : ℕ) (span : Span) → slice_get (spans_of version) i ≡ Some span → view_at version i ≡ Some (seen_as version i span)
seen_at version i span g = of_row (slice_get version.rows i) (sym (slice_get-map (λ row. span_at version.text row) version.rows i) ∙ g)
  where
    of_row : (o : Option Row) → option_map (λ row. span_at version.text row) o ≡ Some span → option_map (λ row. view_of version i row) o ≡ Some (seen_as version i span)
    of_row None e = absurd (none-some span e)
    of_row (Some row) e = ap (λ s. Some (seen_as version i s)) (same_Some (span_at version.text row) span e)

pub lent_at : (version : Version) (i : ℕ) (span : Span) (text : List ℕ) (format : Format) (count number : ℕ) → slice_get (spans_of version) i ≡ Some span → record { text = text; format = format } ≡ span → count ≡ length version.rows → number ≡ version.number
    → view_at version i ≡ Some (record { text = text; format = format; index = i; count = count; version = number })
lent_at version i span text format count number g is counted numbered =
    let make : Span → ℕ → ℕ → SpanView = λ s n v. record { text = s.text; format = s.format; index = i; count = n; version = v } in
    seen_at version i span g ∙ (λ j. Some (make (sym is j) (sym counted j) (sym numbered j)))

-- the limits of a version are those of its spans
pub seen_limits : (version : Version) (i : ℕ) (span : Span) → IsWhole version.text version.rows → slice_get (spans_of version) i ≡ Some span → IsWithinLimits (length span.text) i (length version.rows)
seen_limits version i span whole g = record {
  short = of_row (slice_get version.rows i) (sym (slice_get-map (λ row. span_at version.text row) version.rows i) ∙ g);
  within = let within = slice_get_within (spans_of version) i span g in omega (arith, length-map version.rows (λ row. span_at version.text row));
  few = whole.limits.few;
}
  where
    of_row : (o : Option Row) → option_map (λ row. span_at version.text row) o ≡ Some span → length span.text ≤ 131072
    of_row None e = absurd (none-some span e)
    of_row (Some row) e =
        let few = whole.limits.short in
        omega (arith, ap (λ (s : Span). length s.text) (same_Some (span_at version.text row) span e), length-take (row.end - row.start) (drop row.start version.text), length-drop row.start version.text)

-- ---- the spans of the version that are left
pub rows_few : (version : Version) → length (spans_of version) ≡ length version.rows
rows_few version = length-map version.rows (λ row. span_at version.text row)

pub first_of : {X : Type 0} (xs rest : List X) (i : ℕ) (x : X) → drop i xs ≡ x ∷ rest → (slice_get xs i ≡ Some x) × (rest ≡ drop (i + 1) xs)
first_of [] rest zero x e = absurd cc
first_of [] rest (suc i) x e = absurd cc
first_of (y ∷ ys) rest zero x e =
    let heads : y ≡ x = cc in
    let tails : ys ≡ rest = cc in
    let one : zero + 1 ≡ suc zero = omega arith in
    (ap Some heads, sym tails ∙ ap (λ n. drop n (y ∷ ys)) (sym one))
first_of (y ∷ ys) rest (suc i) x e =
    let r = first_of ys rest i x e in
    let one : suc i + 1 ≡ suc (i + 1) = omega arith in
    (r.0, r.1 ∙ ap (λ n. drop n (y ∷ ys)) (sym one))

pub some_left : {X : Type 0} (xs : List X) (i : ℕ) → i < length xs → drop i xs ≡ [] → ⊥
some_left xs i less e = omega (arith, ap length e, length-drop i xs)
