use Rattle.program_reads.proofs.Positions.{positionless_test}
use Rattle.program_reads.proofs.reads.Reads.is_positionless.Goals as goal

pub returns : goal.returns
returns c = positionless_test c.args.self.now
