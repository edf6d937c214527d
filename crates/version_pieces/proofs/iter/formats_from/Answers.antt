use Rattle.std.proofs.Common.{◌≡◌, List, drop, map, sym, ap, ◌∙◌}
use Rattle.span_flatten.specs.Spans.{Span}
use Rattle.span_flatten.specs.Version.{Version, spans_of}
use Rattle.version_glyphs.proofs.Laid.{laid_spans}
use Rattle.version_pieces.proofs.iter.formats_from.Goals as goal

pub returns : goal.returns
returns c =
    let back : c.version.inside.spans ≡ spans_of c.args.version.now = sym (laid_spans c.version.inside.number c.version.inside.spans) ∙ ap (λ (v : Version). spans_of v) c.version.view_is in
    c.formats_from.ensures ∙ ap (λ (l : List Span). drop c.args.index (map (λ (span : Span). span.format) l)) back
