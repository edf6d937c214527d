use Rattle.std.proofs.Common.{rules}
use Rattle.program_reads.proofs.Positions.{three_of}
use Rattle.program_reads.proofs.lines.push_runs.Goals as goal

pub returns : goal.returns
returns c = rw (three_of c.args.fields.now) (search rules)
