use Rattle.std.proofs.Common.{length, sym, ap, ◌∙◌}
use Rattle.version_pieces.proofs.Along.{length_along}
use Rattle.version_pieces.proofs.spans.Spans.count.Goals as goal

pub returns : goal.returns
returns c = c.count.ensures ∙ sym (length_along c.self.inside.runs c.self.inside.text) ∙ ap length c.self.view_is
