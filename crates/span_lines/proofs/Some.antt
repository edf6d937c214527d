-- The lines of the spans of a version from one of them on, a given number of them or as many as there are.
use Rattle.std.proofs.Common.{◌≡◌, Bool, ℕ, zero, suc, ◌+◌, List, [], ◌∷◌, ◌++◌, map, take, drop, codes, refl, ap, ◌∙◌, arith}
use Rattle.std.specs.List.{flat_map, enumerate_from}
use Rattle.span_flatten.specs.declared.version.Row.{Row}
use Rattle.span_flatten.specs.Spans.{Span}
use Rattle.span_flatten.specs.Version.{Version, spans_in, spans_of}
use Rattle.span_view.specs.Views.{SpanView, view_of}
use Rattle.span_lines.specs.SpanLines.{span_line, named_line, some_lines}
use Rattle.span_lines.proofs.Numbered.{numbered}

abbrev pub named : Bool → ℕ → Span → List ℕ
named further index span = codes "span " ++ span_line further index span

abbrev pub some_named : Bool → ℕ → ℕ → Version → List ℕ
some_named further first most version = numbered (named further) first (take most (drop first (spans_of version)))

abbrev lent_from : Version → ℕ → List Row → List SpanView
lent_from version index rows = map (λ indexed. view_of version indexed.0 indexed.1) (enumerate_from index rows)

first_named : (further : Bool) (version : Version) (index most : ℕ) (rows : List Row)
    → numbered (named further) index (take most (spans_in version.text rows)) ≡ flat_map (named_line further) (take most (lent_from version index rows))
first_named further version index zero rows = refl
first_named further version index (suc most) [] = refl
first_named further version index (suc most) (row ∷ rows) =
    ap (λ (lines : List ℕ). named_line further (view_of version index row) ++ lines) (first_named further version (index + 1) most rows)

past_named : (further : Bool) (version : Version) (index first most : ℕ) (rows : List Row)
    → numbered (named further) (index + first) (take most (drop first (spans_in version.text rows))) ≡ flat_map (named_line further) (take most (drop first (lent_from version index rows)))
past_named further version index zero most rows =
    let same : index + zero ≡ index = omega arith in
    ap (λ n. numbered (named further) n (take most (spans_in version.text rows))) same ∙ first_named further version index most rows
past_named further version index (suc first) zero [] = refl
past_named further version index (suc first) (suc most) [] = refl
past_named further version index (suc first) most (row ∷ rows) =
    let same : index + suc first ≡ (index + 1) + first = omega arith in
    ap (λ n. numbered (named further) n (take most (drop first (spans_in version.text rows)))) same ∙ past_named further version (index + 1) first most rows

-- those that are walked over are those that are lent
pub some_are : (further : Bool) (version : Version) (first most : ℕ) → some_named further first most version ≡ some_lines further first most version
some_are further version first most =
    let same : first ≡ 0 + first = omega arith in
    ap (λ n. numbered (named further) n (take most (drop first (spans_of version)))) same ∙ past_named further version 0 first most version.rows
