-- How far what one holder holds is ahead of what another holds: they are the same, or registers whose marks name one
-- value.
use Rattle.std.specs.Prelude.{ℕ, ℤ, pos, ◌^◌, ◌-ℤ◌, nat_eq, if◌then◌else◌, Option, Some, None, option_and_then}
use Rattle.bpf_words.specs.declared.instruction.Width.{Width}
use Rattle.intervals.specs.Interval.{Interval}
use Rattle.semantics.specs.Value.{bits_of}
use Rattle.abstract_state.specs.declared.state.AbsState.{AbsState}
use Rattle.value_marks.specs.declared.mark.Mark.{Mark}
use Rattle.value_marks.specs.Mark.{narrower, distance, mark_at}
use Rattle.value_marks.specs.Copies.{kept}
use Rattle.tracked_state.specs.declared.state.TrackedState.{TrackedState}
use Rattle.label_potentials.specs.declared.potential.Holder.{Holder}
use Rattle.label_potentials.specs.declared.potential.Holder.TheVariants.{Register, StackSlot}
use Rattle.potential_edges.specs.Same.{is_holder}
use Rattle.potential_edges.specs.Sources.{numbers_in, fits, stays}

abbrev pub mark_of : TrackedState → ℕ → Option Mark
mark_of a register = option_and_then (λ marks. mark_at marks.registers register) (kept a.copies)

-- ---- what is added to each number of an interval, where it is known modulo the width and the sum has no more bits
abbrev pub unwrapped : Width → ℕ → Interval → Option ℤ
unwrapped width ahead from =
    if stays width from (pos ahead) then Some (pos ahead)
    else (if stays width from (pos ahead -ℤ pos (2 ^ bits_of width)) then Some (pos ahead -ℤ pos (2 ^ bits_of width))
    else None)

-- nor has the number to which it leads
abbrev pub ahead_within : Width → ℕ → Interval → Interval → Option ℤ
ahead_within width ahead from to = if fits width to then unwrapped width ahead from else None

-- ---- by marks of both registers
abbrev pub ahead_by : AbsState → ℕ → ℕ → Mark → Mark → Option ℤ
ahead_by a first second m n =
    if nat_eq m.origin n.origin then
    option_and_then (λ from. option_and_then
    (ahead_within (narrower m.width n.width) (distance (narrower m.width n.width) m n) from)
    (numbers_in a second))
    (numbers_in a first)
    else None

abbrev pub ahead_by_marks : TrackedState → ℕ → ℕ → Option ℤ
ahead_by_marks a first second =
    option_and_then (λ m. option_and_then (ahead_by a.state first second m) (mark_of a second)) (mark_of a first)

-- of slots of the stack the marks aren't asked
abbrev pub ahead_of_other : TrackedState → Holder → Holder → Option ℤ
ahead_of_other a (Register first) (Register second) = ahead_by_marks a first second
ahead_of_other a (Register first) (StackSlot second) = None
ahead_of_other a (StackSlot first) (Register second) = None
ahead_of_other a (StackSlot first) (StackSlot second) = None

abbrev pub ahead_in : TrackedState → Holder → Holder → Option ℤ
ahead_in a first second = if is_holder first second then Some (pos 0) else ahead_of_other a first second
