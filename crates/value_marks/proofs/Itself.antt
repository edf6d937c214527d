-- The marks of the code are their own marking.
use Rattle.std.proofs.Common.{◌≡◌, ℕ, ℤ, ◌+◌, Ok, refl, length}
use Rattle.bpf_words.specs.declared.instruction.Insn.{Insn}
use Rattle.semantics.specs.State.{State}
use Rattle.semantics.specs.Step.{On}
use Rattle.abstract_state.specs.declared.state.AbsState.{AbsState}
use Rattle.abstract_state.specs.State.{Span, lengths_of, Contains, does}
use Rattle.abstract_state.specs.Situation.{Situation, situation_of}
use Rattle.value_marks.specs.declared.marks.Marks.{Marks}
use Rattle.value_marks.specs.Marking.{Marking, marking_of, IsMarking, followed}
use Rattle.value_marks.specs.Bearing.{AreBelow, Bears}
use Rattle.value_marks.proofs.Moved.{bears_same, below_same}
use Rattle.value_marks.proofs.Followed.{bears_on}
use Rattle.value_marks.proofs.Below.{below_on}

pub itself : (m : Marks) → IsMarking m (marking_of m)
itself m = record { registers = λ i h. refl; slots = λ i h. refl }

pub below_now : (old new : Marks) (s : Situation) (at : ℕ) (insn : Insn) → ((w : Marking) → IsMarking old w → IsMarking new (followed at insn s w)) → length new.registers ≡ 11 → length new.slots ≡ 64 → AreBelow at (marking_of old) → AreBelow (at + 1) (marking_of new)
below_now old new s at insn rule eleven long was = below_same new (followed at insn s (marking_of old)) (at + 1) eleven long (rule (marking_of old) (itself old)) (below_on at insn s (marking_of old) was)

pub bears_now : (old new : Marks) (a : AbsState) (span : Span) (s next : State) (at : ℕ) (insn : Insn) (far : ℤ) → ((w : Marking) → IsMarking old w → IsMarking new (followed at insn (situation_of a) w)) → Contains a (lengths_of span) s → AreBelow at (marking_of old) → Bears (marking_of old) s → does span s insn ≡ Ok (On next far) → Bears (marking_of new) next
bears_now old new a span s next at insn far rule c below was ran =
    let on = bears_on a span s next at insn far (marking_of old) c below was ran in
    (on.0, bears_same new (followed at insn (situation_of a) (marking_of old)) on.0 next (rule (marking_of old) (itself old)) on.1)
