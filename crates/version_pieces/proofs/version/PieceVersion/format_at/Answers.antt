use Rattle.std.proofs.Common.{◌≡◌, ◌≤◌, List, MatchOption, Some, length, sym, ap, subst, ◌∙◌}
use Rattle.std.specs.List.{slice_get}
use Rattle.span_flatten.specs.Spans.{Span}
use Rattle.span_flatten.specs.Version.{Version, spans_of}
use Rattle.version_glyphs.specs.Glyphs.{glyphs}
use Rattle.version_glyphs.specs.Replacements.{formats}
use Rattle.version_glyphs.proofs.Laid.{laid_spans}
use Rattle.version_pieces.proofs.version.PieceVersion.format_at.Goals as goal

pub returns : goal.returns
returns c =
    let back : c.self.inside.spans ≡ spans_of c.args.self.now = sym (laid_spans c.self.inside.number c.self.inside.spans) ∙ ap (λ (v : Version). spans_of v) c.self.view_is in
    subst (λ (l : List Span). MatchOption c.format_at.result (length (glyphs l) ≤ c.args.place) (λ format. slice_get (formats (glyphs l)) c.args.place ≡ Some format.now)) back
    c.format_at.ensures
