-- The spans of a version, one after another.
use Rattle.std.proofs.Common.{◌≡◌, ℕ, zero, suc, ◌+◌, ◌-◌, List, [], ◌∷◌, length, map, take, drop, refl, sym, ap, ◌∙◌, arith}
use Rattle.std.specs.List.{slice_range}
use Rattle.std.proofs.lemmas.List.{drop-drop, drop-map, length-drop, take-append-drop, take_all}
use Rattle.std.proofs.lemmas.List.Sums.{sum_by-cons}
use Rattle.mark_anchors.specs.Formatting.{Format}
use Rattle.span_flatten.specs.Spans.{Span}
use Rattle.format_runs.specs.Runs.{Run, character_count}
use Rattle.format_runs.proofs.Formats.{count_append}
use Rattle.version_pieces.specs.Along.{spans_along}

count_cons : (r : Run) (rs : List Run) → character_count (r ∷ rs) ≡ r.characters + character_count rs
count_cons r rs = sum_by-cons (λ (run : Run). run.characters) r rs

-- the spans from one on
pub drop_along : (rs : List Run) (cs : List ℕ) (i : ℕ) → drop i (spans_along rs cs) ≡ spans_along (drop i rs) (drop (character_count (take i rs)) cs)
drop_along rs cs zero = refl
drop_along [] cs (suc i) = refl
drop_along (r ∷ rs) cs (suc i) =
    drop_along rs (drop r.characters cs) i
    ∙ ap (λ (l : List ℕ). spans_along (drop i rs) l)
    (drop-drop (character_count (take i rs)) r.characters cs ∙ ap (λ (n : ℕ). drop n cs) (sym (count_cons r (take i rs))))

pub count_parted : (rs : List Run) (i : ℕ) → character_count (take i rs) + character_count (drop i rs) ≡ character_count rs
count_parted rs i = sym (count_append (take i rs) (drop i rs)) ∙ ap character_count (take-append-drop i rs)

-- the characters behind a place, up to the end
pub all_behind : (cs : List ℕ) (start end : ℕ) → end ≡ length cs → slice_range cs start end ≡ drop start cs
all_behind cs start end e = take_all (end - start) (drop start cs) (omega (arith, length-drop start cs))

-- the formats of the spans are those of the runs
formats_along : (rs : List Run) (cs : List ℕ) → map (λ (span : Span). span.format) (spans_along rs cs) ≡ map (λ (run : Run). run.format) rs
formats_along [] cs = refl
formats_along (r ∷ rs) cs = ap (λ (l : List Format). r.format ∷ l) (formats_along rs (drop r.characters cs))

-- so they are from one on
pub formats_behind : (rs : List Run) (cs : List ℕ) (i : ℕ) → map (λ (run : Run). run.format) (drop i rs) ≡ drop i (map (λ (span : Span). span.format) (spans_along rs cs))
formats_behind rs cs i = sym (drop-map (λ (run : Run). run.format) i rs) ∙ ap (λ (l : List Format). drop i l) (sym (formats_along rs cs))
