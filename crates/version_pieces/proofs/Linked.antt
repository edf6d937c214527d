-- Links of the formats of some spans, one part after another.
use Rattle.std.proofs.Common.{◌≡◌, ◌∙◌, ℕ, zero, suc, ◌+◌, ◌-◌, ◌<◌, ◌≤◌, List, [], ◌∷◌, ◌++◌, Some, length, map, drop, refl, ap, subst, sym, arith, ⊎_elim}
use Rattle.std.specs.List.{slice_get}
use Rattle.std.specs.Option.{option_map}
use Rattle.std.proofs.lemmas.Bool.{cases_lt}
use Rattle.std.proofs.lemmas.List.{drop-drop}
use Rattle.std.proofs.lemmas.Option.{none-some, same_Some, slice_get-map, slice_get_within}
use Rattle.mark_anchors.specs.Formatting.{Format}
use Rattle.span_flatten.specs.Spans.{Span}
use Rattle.format_runs.specs.Runs.{Run}
use Rattle.version_pieces.specs.Links.{IsLinked, HasLink}

-- the links of the formats from one on, up to another, are links
abbrev pub AreLinked : List Format → ℕ → ℕ → Type 0
AreLinked formats from to = (i : ℕ) (format : Format) → from ≤ i → i < to → slice_get formats i ≡ Some format → IsLinked format

-- those of the runs are
abbrev pub AreLinkedRuns : List Run → Type 0
AreLinkedRuns runs = (i : ℕ) (run : Run) → slice_get runs i ≡ Some run → IsLinked run.format

-- what stands behind the first ones
slice_get_behind : {X : Type 0} (n : ℕ) (xs : List X) (i : ℕ) → n ≤ i → slice_get xs i ≡ slice_get (drop n xs) (i - n)
slice_get_behind zero xs i le =
    let e : i ≡ i - zero = omega arith in
    ap (slice_get xs) e
slice_get_behind (suc n) [] i le = refl
slice_get_behind (suc n) (x ∷ xs) zero le = absurd (omega arith)
slice_get_behind (suc n) (x ∷ xs) (suc i) le =
    let e : i - n ≡ suc i - suc n = omega arith in
    slice_get_behind n xs i (omega arith) ∙ ap (slice_get (drop n xs)) e

-- what stands in the first of two lists
slice_get_front : {X : Type 0} (xs ys : List X) (i : ℕ) → i < length xs → slice_get (xs ++ ys) i ≡ slice_get xs i
slice_get_front [] ys i less = absurd (omega arith)
slice_get_front (x ∷ xs) ys zero less = refl
slice_get_front (x ∷ xs) ys (suc i) less = slice_get_front xs ys i (omega arith)

drop_front : {X : Type 0} (xs ys : List X) → drop (length xs) (xs ++ ys) ≡ ys
drop_front [] ys = refl
drop_front (x ∷ xs) ys = drop_front xs ys

-- a format of runs is that of a run
format_linked : (runs : List Run) → AreLinkedRuns runs → (k : ℕ) (format : Format) → slice_get (map (λ (run : Run). run.format) runs) k ≡ Some format → IsLinked format
format_linked [] each k format is = absurd (none-some format is)
format_linked (run ∷ runs) each zero format is = subst IsLinked (same_Some run.format format is) (each zero run refl)
format_linked (run ∷ runs) each (suc k) format is = format_linked runs (λ i other e. each (suc i) other e) k format is

-- the formats that are left, behind a part of them
pub part_left : (formats old new : List Format) (part : List Run) (at : ℕ) → old ≡ drop at formats → old ≡ map (λ (run : Run). run.format) part ++ new → length (map (λ (run : Run). run.format) part) ≡ length part
    → new ≡ drop (at + length part) formats
part_left formats old new part at o e n =
    let firsts : List Format = map (λ (run : Run). run.format) part in
    sym (drop_front firsts new) ∙ ap (λ (l : List Format). drop (length firsts) l) (sym e) ∙ ap (λ (l : List Format). drop (length firsts) l) o
    ∙ ap (λ k. drop k (drop at formats)) n ∙ drop-drop (length part) at formats

-- so many are linked, and those of a part
pub part_linked : (formats old new : List Format) (part : List Run) (from at next : ℕ) → old ≡ drop at formats → old ≡ map (λ (run : Run). run.format) part ++ new
    → length (map (λ (run : Run). run.format) part) ≡ length part → AreLinkedRuns part → AreLinked formats from at → next ≤ at + length part → AreLinked formats from next
part_linked formats old new part from at next o e n each before le i format low high is =
    let firsts : List Format = map (λ (run : Run). run.format) part in
    ⊎_elim
    (λ (earlier : i < at). before i format low earlier is)
    (λ (there : at ≤ i).
    let within : i - at < length firsts = omega (arith, n) in
    let here : slice_get firsts (i - at) ≡ Some format =
    sym (slice_get_front firsts new (i - at) within) ∙ ap (λ (l : List Format). slice_get l (i - at)) (sym e ∙ o)
    ∙ sym (slice_get_behind at formats i there) ∙ is in
    format_linked part each (i - at) format here)
    (cases_lt i at)

-- so are the spans
pub spans_linked : (spans : List Span) (from to : ℕ) → AreLinked (map (λ (span : Span). span.format) spans) from to → (i : ℕ) (span : Span) → from ≤ i → i < to → slice_get spans i ≡ Some span → HasLink span
spans_linked spans from to linked i span low high is =
    linked i span.format low high (slice_get-map (λ (s : Span). s.format) spans i ∙ ap (option_map (λ (s : Span). s.format)) is)
