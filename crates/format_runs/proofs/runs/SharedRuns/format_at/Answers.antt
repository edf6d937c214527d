use Rattle.std.proofs.Common.{arith}
use Rattle.format_runs.proofs.Formats.{length_formats}
use Rattle.format_runs.proofs.runs.SharedRuns.format_at.Goals as goal

pub returns-in_default : goal.returns-in_default
returns-in_default c = omega (arith, c.in_default.ensures, length_formats c.args.self.now)
