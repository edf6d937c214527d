-- What the slots of the stack hold, and what stores and joins make of them.
use Rattle.std.specs.Prelude.{ℕ, zero, suc, ◌+◌, ◌*◌, ◌/◌, ◌%◌, nat_le, nat_lt, nat_eq, ◌&&◌, ◌||◌, if◌then◌else◌}
use Rattle.std.specs.Prelude.{Bool, true, false, List, [], ◌∷◌, Option, Some, None, slice_index_or}
use Rattle.std.specs.Option.{option_map_or}
use Rattle.abstract_state.specs.declared.slot.Slot.{Slot}
use Rattle.abstract_state.specs.declared.slot.Slot.TheVariants.{Marks, Spilled}
use Rattle.abstract_state.specs.State.{slot_at}
use Rattle.abstract_state.specs.Addresses.{Content, ANumber, InContext, InStack, InRegion, content_of, either}

-- eight bytes: which of them are set for sure, or what stands in all of them
pub data Eight : Type 0 where
  Marked : List Bool → Eight
  Whole : Content → Eight

abbrev pub eight_of : Slot → Eight
eight_of (Marks marks) = Marked marks
eight_of (Spilled known) = Whole (content_of known)

abbrev pub mark : List Bool → ℕ → Bool
mark marks j = slice_index_or marks j false

-- eight marks, by what each is
abbrev pub marks_by : (ℕ → Bool) → List Bool
marks_by f = f 0 ∷ f 1 ∷ f 2 ∷ f 3 ∷ f 4 ∷ f 5 ∷ f 6 ∷ f 7 ∷ []

abbrev pub all_set : List Bool
all_set = marks_by (λ j. true)

abbrev pub none_set : List Bool
none_set = marks_by (λ j. false)

-- the bytes of a number are set; those of an address count as unset
unfoldable pub marks_of : Eight → List Bool
marks_of (Marked marks) = marks
marks_of (Whole (ANumber a)) = all_set
marks_of (Whole (InContext p)) = none_set
marks_of (Whole (InStack p)) = none_set
marks_of (Whole (InRegion r a)) = none_set

-- ---- what either of two holds: of what stands in both what either is, else the bytes that are set in both
unfoldable pub both_set : List Bool → List Bool → List Bool
both_set a b = marks_by (λ j. mark a j && mark b j)

unfoldable pub either_eight : Eight → Eight → Eight
either_eight (Whole a) (Whole b) = option_map_or Whole (either a b) (Marked none_set)
either_eight a b = Marked (both_set (marks_of a) (marks_of b))

-- ---- a store of count bytes of a number at an offset sets these; the slots that it touches are bytes from then on
unfoldable pub marks_stored : ℕ → ℕ → ℕ → List Bool → List Bool
marks_stored first offset count marks =
    marks_by (λ j. mark marks j || (nat_le offset (first + j) && nat_lt (first + j) (offset + count)))

unfoldable pub stored_eight : ℕ → ℕ → ℕ → Eight → Eight
stored_eight first offset count a =
    if nat_lt offset (first + 8) && nat_lt first (offset + count)
    then Marked (marks_stored first offset count (marks_of a))
    else a

-- what each slot of the stack holds
abbrev pub Slots : Type 0
Slots = ℕ → Eight

abbrev pub slots_of : List Slot → Slots
slots_of slots i = eight_of (slot_at slots i)

abbrev pub stored : ℕ → ℕ → Slots → Slots
stored offset count slots i = stored_eight (8 * i) offset count (slots i)

-- a store of all eight bytes of a slot at once leaves there what is stored
abbrev pub spilled : ℕ → Content → Slots → Slots
spilled slot content slots i = if nat_eq i slot then Whole content else slots i

-- ---- loads
-- whether a byte is set for sure
unfoldable pub is_set : Slots → ℕ → Bool
is_set slots p = mark (marks_of (slots (p / 8))) (p % 8)

-- whether count bytes from p on are
unfoldable pub are_set : Slots → ℕ → ℕ → Bool
are_set slots p zero = true
are_set slots p (suc count) = are_set slots p count && is_set slots (p + count)

-- what stands in a slot
abbrev pub whole_in : Eight → Option Content
whole_in (Marked marks) = None
whole_in (Whole content) = Some content
