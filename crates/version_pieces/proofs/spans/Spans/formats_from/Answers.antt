use Rattle.std.proofs.Common.{List, drop, map, ap, ◌∙◌}
use Rattle.span_flatten.specs.Spans.{Span}
use Rattle.format_runs.specs.Runs.{Run}
use Rattle.version_pieces.proofs.Walking.{formats_behind}
use Rattle.version_pieces.proofs.spans.Spans.formats_from.Goals as goal

pub returns : goal.returns
returns c =
    ap (λ (l : List Run). map (λ (run : Run). run.format) l) c.runs_from-runs.ensures.runs
    ∙ formats_behind c.self.inside.runs c.self.inside.text c.args.index
    ∙ ap (λ (l : List Span). drop c.args.index (map (λ (span : Span). span.format) l)) c.self.view_is
