use Rattle.std.proofs.Common.{refl}
use Rattle.intervals.proofs.Range.new.Goals as goal

pub returns-clause-contains : goal.returns-clause-contains
returns-clause-contains c = λ x above below. (_, refl, record { low = above; high = below })
