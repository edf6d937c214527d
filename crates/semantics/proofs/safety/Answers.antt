use Rattle.semantics.proofs.Witness.{one-safe, alone-unsafe}
use Rattle.semantics.proofs.safety.Goals as goal

pub returns-clause-some : goal.returns-clause-some
returns-clause-some c = one-safe

pub returns-clause-not_all : goal.returns-clause-not_all
returns-clause-not_all c = alone-unsafe
