use Rattle.std.proofs.Common.{ap, ◌∙◌}
use Rattle.format_runs.specs.Runs.{character_count}
use Rattle.format_runs.proofs.Pieces.{sum_characters}
use Rattle.format_runs.proofs.runs.SharedRuns.character_count.Goals as goal

pub returns : goal.returns
returns c = c.size.ensures ∙ sum_characters c.self.inside.pieces ∙ ap character_count c.self.view_is
