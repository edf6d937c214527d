use Rattle.std.proofs.Common.{◌≡◌, ℕ, ◌<◌, Some}
use Rattle.std.specs.List.{slice_get}
use Rattle.change_ops.specs.Operations.{id_of}
use Rattle.change_ops.specs.declared.operation.Op.{Op}
use Rattle.mark_anchors.proofs.marks.Marks.mark.Given as goal

abbrev pub invariant-loop-operation : goal.invariant-loop-operation
invariant-loop-operation l = (j : ℕ) (o : Op) → j < l.operation-index → slice_get l.self j ≡ Some o → id_of o ≡ l.id → ⊥
