use Rattle.std.proofs.Common.{List, length, sym, ap, ◌∙◌}
use Rattle.span_flatten.specs.Spans.{Span}
use Rattle.span_flatten.specs.Version.{joined}
use Rattle.version_pieces.proofs.Along.{joined_along}
use Rattle.version_pieces.proofs.spans.Spans.byte_count.Goals as goal

pub returns : goal.returns
returns c =
    c.byte_count.ensures ∙ ap length (sym (joined_along c.self.inside.runs c.self.inside.text c.self.invariant.whole)) ∙ ap (λ (l : List Span). length (joined l)) c.self.view_is
