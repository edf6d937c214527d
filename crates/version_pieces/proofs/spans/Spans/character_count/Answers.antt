use Rattle.std.proofs.Common.{List, length, sym, ap, ◌∙◌}
use Rattle.span_flatten.specs.Spans.{Span}
use Rattle.version_glyphs.specs.Glyphs.{glyphs}
use Rattle.version_pieces.proofs.Along.{count_along}
use Rattle.version_pieces.proofs.spans.Spans.character_count.Goals as goal

pub returns : goal.returns
returns c = c.character_count.ensures ∙ sym (count_along c.self.inside.text c.self.inside.runs c.self.invariant) ∙ ap (λ (l : List Span). length (glyphs l)) c.self.view_is
