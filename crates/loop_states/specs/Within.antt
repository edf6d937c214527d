-- Where all that a second state says follows from what a first says. A name of a slot means nothing by itself; the two
-- lengths' names do, so that their marks have to be the first's.
use Rattle.std.specs.Prelude.{◌≡◌, ◌⊎◌, ℕ, ◌<◌, Option, Some, None}
use Rattle.value_marks.specs.declared.mark.Mark.{Mark}
use Rattle.value_marks.specs.Marking.{Marking}
use Rattle.tracked_state.specs.Tracked.{TrackedSituation}
use Rattle.state_inclusion.specs.Inclusion.{IsWithin}
use Rattle.state_inclusion.specs.Partners.{marks_in}
use Rattle.length_marks.specs.Names.{text_name}

abbrev pub IsLengthKept : Option Mark → Option Mark → Type 0
IsLengthKept o None = Unit {0}
IsLengthKept o (Some m) = (m.origin < text_name) ⊎ (o ≡ Some m)

pub record AreLengthsKept (v w : Marking) : Type 0 where
  pub registers : (i : ℕ) → i < 11 → IsLengthKept (v.registers i) (w.registers i)
  pub slots : (i : ℕ) → i < 64 → IsLengthKept (v.slots i) (w.slots i)

pub record IsWithinInLoop (a b : TrackedSituation) : Type 0 where
  pub states : IsWithin a b
  pub lengths : AreLengthsKept (marks_in a) (marks_in b)
