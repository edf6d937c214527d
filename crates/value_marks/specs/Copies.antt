-- Marks where they are kept at all.
use Rattle.std.specs.Prelude.{ℕ, Option, Some, None}
use Rattle.std.specs.declared.boxed.Box.{Box}
use Rattle.std.specs.declared.alloc.Global.{Global}
use Rattle.bpf_words.specs.declared.instruction.Operand.{Operand}
use Rattle.semantics.specs.State.{State}
use Rattle.abstract_state.specs.Situation.{Situation}
use Rattle.value_marks.specs.declared.marks.Marks.{Marks}
use Rattle.value_marks.specs.declared.copies.Copies.{Copies}
use Rattle.value_marks.specs.Marking.{Marking, marking_of, IsMarking, joined}
use Rattle.value_marks.specs.Bearing.{Bears, AreBelow}
use Rattle.value_marks.specs.Telling.{sides_tell}

abbrev pub in_box : Option (Box Marks Global) → Option Marks
in_box None = None
in_box (Some boxed) = Some boxed.value

abbrev pub kept : Copies → Option Marks
kept c = in_box c.marks

-- they are true of the machine
abbrev pub Bear : Option Marks → State → Type 0
Bear None s = Unit {0}
Bear (Some marks) s = Bears (marking_of marks) s

-- their origins are slots below one
abbrev pub LieBelow : ℕ → Option Marks → Type 0
LieBelow slot None = Unit {0}
LieBelow slot (Some marks) = AreBelow slot (marking_of marks)

-- the code's marks are the marking, where there is one
abbrev pub AreMarking : Option Marks → Option Marking → Type 0
AreMarking None None = Unit {0}
AreMarking None (Some w) = ⊥
AreMarking (Some marks) None = ⊥
AreMarking (Some marks) (Some w) = IsMarking marks w

abbrev pub joined_copies : Option Marking → Option Marking → Option Marking
joined_copies None o = None
joined_copies (Some v) None = None
joined_copies (Some v) (Some w) = Some (joined v w)

abbrev pub copies_tell : ℕ → Operand → Option Marking → Situation → Option Situation
copies_tell left right None s = Some s
copies_tell left right (Some w) s = sides_tell left right w s
