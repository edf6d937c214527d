use Rattle.std.proofs.Common.{ap, arith}
use Rattle.format_runs.specs.Runs.{character_count}
use Rattle.format_runs.proofs.Pieces.{sum_characters}
use Rattle.format_runs.proofs.runs.SharedRuns.keeps.Goals as goal

pub returns-clause-short : goal.returns-clause-short
returns-clause-short c =
    omega (arith, c.keeps.ensures.short.characters, sum_characters c.self.inside.pieces, ap character_count c.self.view_is)
