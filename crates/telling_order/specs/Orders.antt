-- Places told of a value one after another, in any order.
use Rattle.std.specs.Prelude.{◌≡◌, ℕ, zero, suc, List, [], ◌∷◌, ◌++◌, Option, Some, None, option_and_then}
use Rattle.abstract_state.specs.Situation.{Situation}
use Rattle.value_marks.specs.Marking.{Marking}
use Rattle.value_marks.specs.Telling.{Teller, register_hears, slot_hears}

-- what may bear a mark: a register, or eight bytes of the stack
pub data Place : Type 0 where
  Register : ℕ → Place
  Slot : ℕ → Place

abbrev pub hears : Teller → Marking → Place → Situation → Option Situation
hears t w (Register i) s = register_hears t w i s
hears t w (Slot i) s = slot_hears t w i s

-- places hear one after another; no run comes there where one of them says so
abbrev pub hear : Teller → Marking → List Place → Situation → Option Situation
hear t w [] s = Some s
hear t w (place ∷ more) s = option_and_then (hear t w more) (hears t w place s)

-- the registers, then the stack, each by rising numbers
abbrev pub first_ones : (ℕ → Place) → ℕ → List Place
first_ones place zero = []
first_ones place (suc count) = first_ones place count ++ place count ∷ []

abbrev pub by_rising_numbers : List Place
by_rising_numbers = first_ones Register 11 ++ first_ones Slot 64

-- a list whose elements at an index and behind it have changed places
abbrev pub swapped_at : ℕ → List Place → List Place
swapped_at index [] = []
swapped_at zero (x ∷ []) = x ∷ []
swapped_at zero (x ∷ y ∷ more) = y ∷ x ∷ more
swapped_at (suc index) (x ∷ more) = x ∷ swapped_at index more

abbrev pub after_swaps : List ℕ → List Place → List Place
after_swaps [] places = places
after_swaps (index ∷ more) places = after_swaps more (swapped_at index places)

-- the same places in another order
abbrev pub IsReordering : List Place → List Place → Type 0
IsReordering places order = (swaps : List ℕ) × (order ≡ after_swaps swaps places)

-- the same is known of each register, of each eight bytes, and of the lengths of what is lent
pub record IsAlike (a b : Situation) : Type 0 where
  pub registers : (i : ℕ) → a.registers i ≡ b.registers i
  pub slots : (i : ℕ) → a.slots i ≡ b.slots i
  pub least : a.least ≡ b.least

abbrev pub AreAlike : Option Situation → Option Situation → Type 0
AreAlike None None = Unit {0}
AreAlike None (Some b) = ⊥
AreAlike (Some a) None = ⊥
AreAlike (Some a) (Some b) = IsAlike a b
