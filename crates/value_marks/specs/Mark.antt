-- Marks: what names a value, so that its copies can be told from others.
use Rattle.std.specs.Prelude.{◌≡◌, ℕ, ◌+◌, ◌-◌, ◌%◌, ◌^◌, Option, Some, None, List, slice_index_or}
use Rattle.bpf_words.specs.declared.instruction.Width.{Width}
use Rattle.bpf_words.specs.declared.instruction.Width.TheVariants.{Narrow, Full}
use Rattle.semantics.specs.Value.{cut}
use Rattle.value_marks.specs.declared.mark.Mark.{Mark}

-- a name for the value of an instruction's operand, by the instruction's slot
abbrev pub new_mark : ℕ → Mark
new_mark slot = record { origin = slot; addend = 0; width = Full }

-- so much more, modulo 2^64, or less
abbrev pub raised_mark : ℕ → Mark → Mark
raised_mark n m = record { origin = m.origin; addend = (m.addend + n) % 2 ^ 64; width = m.width }

abbrev pub lowered_mark : ℕ → Mark → Mark
lowered_mark n m = record { origin = m.origin; addend = (m.addend + (2 ^ 64 - n % 2 ^ 64)) % 2 ^ 64; width = m.width }

-- of the low bits
abbrev pub cut_mark : Width → Mark → Mark
cut_mark Full m = m
cut_mark Narrow m = record { origin = m.origin; addend = m.addend; width = Narrow }

-- the lesser of two widths
abbrev pub narrower : Width → Width → Width
narrower Full w = w
narrower Narrow w = Narrow

-- by how much a value is ahead of another of its origin, modulo the width
abbrev pub distance : Width → Mark → Mark → ℕ
distance width from to = cut width ((to.addend + (2 ^ 64 - from.addend % 2 ^ 64)) % 2 ^ 64)

-- ---- what a mark says of a number: its low bits are those of the value that the origin names, and the addend
abbrev pub Agrees : (ℕ → ℕ) → Mark → ℕ → Type 0
Agrees origins m n = cut m.width n ≡ cut m.width (origins m.origin + m.addend)

-- each number that stands in a place agrees with the place's mark, if it has one
abbrev pub AgreesAt : (ℕ → ℕ) → Option Mark → (ℕ → Type 0) → Type 0
AgreesAt origins mark Stands = (m : Mark) (n : ℕ) → mark ≡ Some m → Stands n → Agrees origins m n

abbrev pub mark_at : List (Option Mark) → ℕ → Option Mark
mark_at marks i = slice_index_or marks i None
