use Rattle.std.proofs.Common.{length, ap, ◌∙◌}
use Rattle.format_runs.proofs.Pieces.{sum_parts}
use Rattle.format_runs.proofs.runs.SharedRuns.count.Goals as goal

pub returns : goal.returns
returns c = c.size.ensures ∙ sum_parts c.self.inside.pieces ∙ ap length c.self.view_is
