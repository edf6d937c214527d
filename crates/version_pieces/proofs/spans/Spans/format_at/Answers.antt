use Rattle.std.proofs.Common.{◌≡◌, ◌≤◌, ℕ, List, MatchOption, Some, length, sym, subst, ◌∙◌}
use Rattle.std.specs.List.{slice_get}
use Rattle.mark_anchors.specs.Formatting.{Format}
use Rattle.span_flatten.specs.Spans.{Span}
use Rattle.format_runs.specs.Runs.{Run, formats_of}
use Rattle.format_runs.proofs.Formats.{length_formats}
use Rattle.version_glyphs.specs.Glyphs.{glyphs}
use Rattle.version_glyphs.specs.Replacements.{formats}
use Rattle.version_pieces.specs.Along.{spans_along}
use Rattle.version_pieces.proofs.Along.{count_along, formats_along}
use Rattle.version_pieces.proofs.spans.Spans.format_at.Goals as goal

pub returns : goal.returns
returns c =
    let cs : List ℕ = c.self.inside.text in
    let rs : List Run = c.self.inside.runs in
    let spans : List Span = spans_along rs cs in
    let place : ℕ = c.args.place in
    let size : length (formats_of rs) ≡ length (glyphs spans) = length_formats rs ∙ c.self.invariant.whole ∙ sym (count_along cs rs c.self.invariant) in
    subst (λ (l : List Span). MatchOption c.format_at.result (length (glyphs l) ≤ place) (λ format. slice_get (formats (glyphs l)) place ≡ Some format.now)) c.self.view_is
    (subst (λ (l : List Format). MatchOption c.format_at.result (length (glyphs spans) ≤ place) (λ format. slice_get l place ≡ Some format.now))
    (sym (formats_along cs rs c.self.invariant))
    (subst (λ (n : ℕ). MatchOption c.format_at.result (n ≤ place) (λ format. slice_get (formats_of rs) place ≡ Some format.now)) size c.format_at.ensures))
