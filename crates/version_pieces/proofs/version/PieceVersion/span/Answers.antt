use Rattle.std.proofs.Common.{◌≡◌, List, sym, ap, ◌∙◌}
use Rattle.std.specs.List.{slice_get}
use Rattle.span_flatten.specs.Spans.{Span}
use Rattle.span_flatten.specs.Version.{Version, spans_of}
use Rattle.version_glyphs.proofs.Laid.{laid_spans}
use Rattle.version_pieces.proofs.version.PieceVersion.span.Goals as goal

pub returns : goal.returns
returns c =
    let back : c.self.inside.spans ≡ spans_of c.args.self.now = sym (laid_spans c.self.inside.number c.self.inside.spans) ∙ ap (λ (v : Version). spans_of v) c.self.view_is in
    c.span.ensures ∙ ap (λ (l : List Span). slice_get l c.args.index) back
