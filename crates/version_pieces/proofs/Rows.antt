-- Rows of maximal spans are maximal runs.
use Rattle.std.proofs.Common.{◌≡◌, ℕ, ◌+◌, List, [], ◌∷◌, Some, length, refl, sym, ap, subst, ◌∙◌}
use Rattle.std.specs.List.{slice_get}
use Rattle.std.specs.Str.{chars}
use Rattle.std.proofs.lemmas.Option.{none-some, same_Some}
use Rattle.span_flatten.specs.Spans.{Span}
use Rattle.span_flatten.specs.declared.version.Row.{Row}
use Rattle.span_flatten.specs.Version.{IsWhole, rows_from, spans_in}
use Rattle.format_runs.specs.Runs.{Run, AreMaximal as AreMaximalRuns, runs_in}
use Rattle.version_glyphs.specs.Glyphs.{AreMaximal}
use Rattle.version_glyphs.proofs.Glyphs.{some_characters}

-- the first run has the format of the first span
first_run : (spans : List Span) (start : ℕ) (r : Run) → slice_get (runs_in (rows_from start spans)) 0 ≡ Some r
    → (x : Span) × (slice_get spans 0 ≡ Some x) × (x.format ≡ r.format)
first_run [] start r g = absurd (none-some r g)
first_run (x ∷ xs) start r g =
    let run : Run = record { format = x.format; characters = length (chars x.text) } in
    (x, refl, ap (λ (q : Run). q.format) (same_Some run r g))

runs_maximal : (spans : List Span) (start : ℕ) → AreMaximal spans → AreMaximalRuns (runs_in (rows_from start spans))
runs_maximal [] start m = tt
runs_maximal (x ∷ xs) start m =
    let behind : ℕ = start + length x.text in (
      some_characters x m.0,
      (λ r g same.
          let next = first_run xs behind r g in
          m.1 0 x next.0 refl refl next.1 (same ∙ sym next.2)),
      runs_maximal xs behind m.2,
    )

-- a row of a whole text counts its span's characters, so that maximal spans are maximal runs
pub rows_maximal : (text : List ℕ) (rows : List Row) → IsWhole text rows → AreMaximal (spans_in text rows) → AreMaximalRuns (runs_in rows)
rows_maximal text rows whole m =
    subst (λ (l : List Row). AreMaximalRuns (runs_in l)) (sym whole.layout.end_to_end) (runs_maximal (spans_in text rows) 0 m)
