-- Marks that follow from what a first state knows. A name means nothing by itself: it says how far its holders are
-- apart, and the first state has to know that of each two of them.
use Rattle.std.specs.Prelude.{◌≡◌, ◌⊎◌, ℕ, ◌+◌, ◌-◌, ◌<◌, nat_lt, if◌then◌else◌, Option, Some, None}
use Rattle.std.specs.Prelude.{option_and_then, unwrap_or}
use Rattle.bpf_words.specs.declared.instruction.Width.{Width}
use Rattle.semantics.specs.Value.{cut}
use Rattle.abstract_state.specs.Addresses.{Content, number_of}
use Rattle.abstract_state.specs.Stacks.{whole_in}
use Rattle.abstract_state.specs.Situation.{Situation}
use Rattle.value_marks.specs.declared.mark.Mark.{Mark}
use Rattle.value_marks.specs.Mark.{narrower, distance}
use Rattle.value_marks.specs.Marking.{Marking, no_marks}
use Rattle.tracked_state.specs.Tracked.{TrackedSituation}
use Rattle.state_inclusion.specs.declared.partners.Holder.{Holder}

-- ---- the holders of marks by their places: first the eleven registers, then the slots of the stack
abbrev pub marks_in : TrackedSituation → Marking
marks_in a = unwrap_or a.marking no_marks

abbrev pub mark_in : Marking → ℕ → Option Mark
mark_in w place = if nat_lt place 11 then w.registers place else w.slots (place - 11)

abbrev pub mark_at : TrackedSituation → ℕ → Option Mark
mark_at a place = mark_in (marks_in a) place

abbrev pub content_at : Situation → ℕ → Option Content
content_at s place = if nat_lt place 11 then s.registers place else whole_in (s.slots (place - 11))

-- what is known of a place: its mark, and its one number
abbrev pub holder_at : TrackedSituation → ℕ → Holder
holder_at a place = record {
  mark = mark_at a place;
  number = option_and_then number_of (content_at a.situation place);
}

-- ---- the second of two holders is known to be so far ahead of the first, modulo the width
-- they bear one name, by marks of at least that width
abbrev pub IsAheadByMarks : Width → ℕ → Option Mark → Option Mark → Type 0
IsAheadByMarks width ahead None n = ⊥
IsAheadByMarks width ahead (Some m) None = ⊥
IsAheadByMarks width ahead (Some m) (Some n) =
    (m.origin ≡ n.origin) × (narrower m.width width ≡ width) × (narrower n.width width ≡ width)
    × (distance width m n ≡ ahead)

-- they hold numbers that are so far apart
abbrev pub IsAheadByNumbers : Width → ℕ → Option ℕ → Option ℕ → Type 0
IsAheadByNumbers width ahead None y = ⊥
IsAheadByNumbers width ahead (Some x) None = ⊥
IsAheadByNumbers width ahead (Some x) (Some y) = cut width y ≡ cut width (x + ahead)

abbrev pub IsAhead : Width → ℕ → Holder → Holder → Type 0
IsAhead width ahead a b = IsAheadByMarks width ahead a.mark b.mark ⊎ IsAheadByNumbers width ahead a.number b.number

-- ---- what two marks of one name say of their holders is known of these
abbrev pub IsMarkWithin : Holder → Holder → Mark → Mark → Type 0
IsMarkWithin a b m n =
    m.origin ≡ n.origin → IsAhead (narrower m.width n.width) (distance (narrower m.width n.width) m n) a b

abbrev pub IsPairWithin : Holder → Holder → Option Mark → Option Mark → Type 0
IsPairWithin a b m None = Unit {0}
IsPairWithin a b None (Some n) = Unit {0}
IsPairWithin a b (Some m) (Some n) = IsMarkWithin a b m n

-- each two holders
abbrev pub AreMarksWithin : TrackedSituation → TrackedSituation → Type 0
AreMarksWithin a b =
    (i j : ℕ) → i < 75 → j < i → IsPairWithin (holder_at a j) (holder_at a i) (mark_at b j) (mark_at b i)
