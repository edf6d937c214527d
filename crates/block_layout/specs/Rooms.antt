-- How much room instructions take where each has a jump behind it.
use Rattle.std.specs.Prelude.{ℕ, ◌+◌, nat_lt, if◌then◌else◌, List, [], ◌∷◌, Option, Some, None}
use Rattle.bpf_words.specs.declared.instruction.Insn.{Insn}
use Rattle.bpf_words.specs.Flow.{slots_of}
use Rattle.semantics.specs.Step.{Program}

abbrev pub room_of : Option Insn → ℕ
room_of None = 0
room_of (Some insn) = slots_of insn + 1

-- all of a program
abbrev pub room : Program → ℕ
room [] = 0
room (None ∷ program) = room program
room (Some insn ∷ program) = slots_of insn + 1 + room program

-- slot by slot
abbrev pub rooms_of : Program → List ℕ
rooms_of [] = []
rooms_of (None ∷ program) = 0 ∷ rooms_of program
rooms_of (Some insn ∷ program) = (slots_of insn + 1) ∷ rooms_of program

-- what a slot takes, if its rank is above another
abbrev pub pick : ℕ → ℕ → ℕ → ℕ
pick rank other taken = if nat_lt rank other then taken else 0

-- what all slots take whose ranks are above one
abbrev pub above : List ℕ → List ℕ → ℕ → ℕ
above [] rooms rank = 0
above (other ∷ ranks) [] rank = 0
above (other ∷ ranks) (taken ∷ rooms) rank = pick rank other taken + above ranks rooms rank
