-- Lists without a mark.
use Rattle.std.proofs.Common.{◌≡◌, ℕ, ◌<◌, replicate, Option, Some, None, arith}
use Rattle.std.proofs.lemmas.Grind.{common_steps}
use Rattle.value_marks.specs.declared.mark.Mark.{Mark}
use Rattle.value_marks.specs.declared.marks.Marks.{Marks}
use Rattle.value_marks.specs.Mark.{mark_at}
use Rattle.value_marks.specs.Marking.{Marking, IsMarking, overwritten}

pub all_none : (n i : ℕ) → mark_at (replicate n None) i ≡ None
all_none n i = grind (arith, common_steps)

pub none_some : (o : Option Mark) (m : Mark) → o ≡ None → o ≡ Some m → ⊥
none_some o m e f = cc

pub cleared : (m : Marks) (o : Option ℕ) (count : ℕ) (w : Marking) → o ≡ None → ((i : ℕ) → i < 11 → mark_at m.registers i ≡ w.registers i) → ((i : ℕ) → mark_at m.slots i ≡ None) → IsMarking m (overwritten o count w)
unfolding overwritten
cleared m None count w e registers slots = record { registers = registers; slots = λ i h. slots i }
cleared m (Some p) count w e registers slots = absurd (cc)
