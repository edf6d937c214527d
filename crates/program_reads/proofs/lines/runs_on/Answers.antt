use Rattle.std.proofs.Common.{refl}
use Rattle.program_reads.specs.Positions.{marked}
use Rattle.program_reads.proofs.lines.runs_on.Goals as goal

pub returns-in-true-true-true : goal.returns-in-true-true-true
unfolding marked
returns-in-true-true-true c = rw (c.in-true-true-true.is-0, c.in-true-true-true.is-1, c.in-true-true-true.is-2) refl
