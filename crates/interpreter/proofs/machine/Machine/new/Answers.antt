use Rattle.std.proofs.Common.{refl}
use Rattle.interpreter.proofs.machine.Machine.new.Goals as goal

pub returns-clause-state : goal.returns-clause-state
returns-clause-state c = rw c.new.ensures.unset refl
