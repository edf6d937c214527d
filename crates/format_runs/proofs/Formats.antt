-- Runs and the formats of their characters.
use Rattle.std.proofs.Common.{◌≡◌, ℕ, ◌+◌, ◌<◌, List, [], ◌∷◌, ◌++◌, length, take, replicate, get_or, refl, sym, ap, ◌∙◌, length-append, append_assoc}
use Rattle.std.proofs.lemmas.Grind.{flat_map-append}
use Rattle.std.proofs.lemmas.List.{append-nil, length-map, length-replicate, replicate-append-replicate, take_more}
use Rattle.std.proofs.lemmas.List.Sums.{sum_by-append, sum_by-cons}
use Rattle.span_flatten.specs.declared.version.Row.{Row}
use Rattle.format_runs.specs.Runs.{Run, character_count, formats_in, formats_of, row_count, runs_in}

pub formats_append : (xs ys : List Run) → formats_of (xs ++ ys) ≡ formats_of xs ++ formats_of ys
formats_append xs ys = flat_map-append (λ (r : Run). replicate r.characters r.format) xs ys

pub length_formats : (runs : List Run) → length (formats_of runs) ≡ character_count runs
length_formats [] = refl
length_formats (r ∷ runs) =
    length-append (replicate r.characters r.format) (formats_of runs)
    ∙ ap (λ n. n + length (formats_of runs)) (length-replicate r.characters r.format) ∙ ap (λ n. r.characters + n) (length_formats runs)
    ∙ sym (sum_by-cons (λ (run : Run). run.characters) r runs)

pub count_append : (xs ys : List Run) → character_count (xs ++ ys) ≡ character_count xs + character_count ys
count_append xs ys = sum_by-append (λ (run : Run). run.characters) xs ys

pub formats_push : (runs : List Run) (r : Run) → formats_of (runs ++ r ∷ []) ≡ formats_of runs ++ replicate r.characters r.format
formats_push runs r =
    formats_append runs (r ∷ []) ∙ ap (λ l. formats_of runs ++ l) (append-nil (replicate r.characters r.format))

-- the last run of a list with one more
abbrev pub longer : Run → ℕ → Run
longer r n = record { format = r.format; characters = r.characters + n }

-- a last run that is lengthened
pub formats_longer : (front : List Run) (last : Run) (n : ℕ) → formats_of (front ++ longer last n ∷ []) ≡ formats_of (front ++ last ∷ []) ++ replicate n last.format
formats_longer front last n =
    formats_push front (longer last n)
    ∙ ap (λ l. formats_of front ++ l) (sym (replicate-append-replicate last.characters n last.format))
    ∙ sym (append_assoc (formats_of front) (replicate last.characters last.format) (replicate n last.format))
    ∙ ap (λ l. l ++ replicate n last.format) (sym (formats_push front last))

-- ---- rows
pub formats_rows : (rows : List Row) → formats_of (runs_in rows) ≡ formats_in rows
formats_rows [] = refl
formats_rows (row ∷ rows) = ap (λ l. replicate row.characters row.format ++ l) (formats_rows rows)

pub count_rows : (rows : List Row) → character_count (runs_in rows) ≡ row_count rows
count_rows [] = refl
count_rows (row ∷ rows) =
    let run : Run = record { format = row.format; characters = row.characters } in
    sum_by-cons (λ (r : Run). r.characters) run (runs_in rows) ∙ ap (λ n. row.characters + n) (count_rows rows)
    ∙ sym (sum_by-cons (λ (r : Row). r.characters) row rows)

pub rows_more : (rows : List Row) (i : ℕ) (row : Row) → i < length rows → row ≡ get_or rows i row
    → formats_in (take (i + 1) rows) ≡ formats_in (take i rows) ++ replicate row.characters row.format
rows_more rows i row lt is =
    ap formats_in (take_more rows i row lt ∙ ap (λ r. take i rows ++ r ∷ []) (sym is))
    ∙ flat_map-append (λ (r : Row). replicate r.characters r.format) (take i rows) (row ∷ [])
    ∙ ap (λ l. formats_in (take i rows) ++ l) (append-nil (replicate row.characters row.format))

pub length_rows : (rows : List Row) → length (formats_in rows) ≡ row_count rows
length_rows rows = ap length (sym (formats_rows rows)) ∙ length_formats (runs_in rows) ∙ count_rows rows

pub count_added : (old new : List Run) (rows : List Row) → formats_of new ≡ formats_of old ++ formats_in rows → character_count new ≡ character_count old + row_count rows
count_added old new rows e =
    sym (length_formats new) ∙ ap length e ∙ length-append (formats_of old) (formats_in rows)
    ∙ ap (λ n. n + length (formats_in rows)) (length_formats old) ∙ ap (λ n. character_count old + n) (length_rows rows)

-- there is a run for each row
pub length_runs : (rows : List Row) → length (runs_in rows) ≡ length rows
length_runs rows = let run : Row → Run = λ row. record { format = row.format; characters = row.characters } in length-map rows run
