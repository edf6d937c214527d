use Rattle.std.proofs.Common.{List, ℕ, ◌+◌, take}
use Rattle.change_ops.specs.declared.operation.Op.{Op}
use Rattle.change_ops.specs.declared.size.Size.{Size}
use Rattle.change_ops.specs.Runs.{inserts_of}
use Rattle.change_history.specs.Tally.{IsTally, AreFollowing}
use Rattle.change_history.proofs.admission.note_run.Given as goal

abbrev pub invariant-loop-index : goal.invariant-loop-index
invariant-loop-index l = (size : Size) (ops added : List Op) (from node : ℕ) → AreFollowing size ops added from node l.fn.tally (inserts_of l.run) → IsTally ops (take (from + l.index) added) node l.tally
