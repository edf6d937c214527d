-- Registers and slots of the stack that hold no more than a second state's may.
use Rattle.std.specs.Prelude.{◌≡◌, ℕ, ◌<◌, ◌≤◌, true, Option, Some, None}
use Rattle.abstract_state.specs.declared.region.Region.TheVariants.{Text, Link}
use Rattle.abstract_state.specs.Addresses.{Content, ANumber, InContext, InStack, InRegion}
use Rattle.abstract_state.specs.Stacks.{Eight, Marked, Whole, mark}
use Rattle.abstract_state.specs.Situation.{Situation, Least}
use Rattle.state_inclusion.specs.Numbers.{IsNumberWithin}

-- of one kind, and no more numbers, or offsets in one region
abbrev pub IsContentWithin : Least → Content → Content → Type 0
IsContentWithin least (ANumber a) (ANumber b) = IsNumberWithin least a b
IsContentWithin least (InContext p) (InContext q) = p ≡ q
IsContentWithin least (InStack p) (InStack q) = p ≡ q
IsContentWithin least (InRegion Text a) (InRegion Text b) = IsNumberWithin least a b
IsContentWithin least (InRegion Link a) (InRegion Link b) = IsNumberWithin least a b
IsContentWithin least a b = ⊥

-- any register is within one that may be unset
abbrev pub IsRegisterWithin : Least → Option Content → Option Content → Type 0
IsRegisterWithin least a None = Unit {0}
IsRegisterWithin least None (Some b) = ⊥
IsRegisterWithin least (Some a) (Some b) = IsContentWithin least a b

-- each byte that is set in the second is set in the first; where something stands in all eight, each is set
abbrev pub IsSlotWithin : Least → Eight → Eight → Type 0
IsSlotWithin least (Marked a) (Marked b) = (j : ℕ) → j < 8 → mark b j ≡ true → mark a j ≡ true
IsSlotWithin least (Whole a) (Marked b) = Unit {0}
IsSlotWithin least (Marked a) (Whole b) = ⊥
IsSlotWithin least (Whole a) (Whole b) = IsContentWithin least a b

-- the first says that each lent region is at least as long as the second says
abbrev pub IsLeastWithin : Least → Least → Type 0
IsLeastWithin a b = (b.text ≤ a.text) × (b.link ≤ a.link)

pub record IsSituationWithin (a b : Situation) : Type 0 where
  pub registers : (i : ℕ) → i < 11 → IsRegisterWithin a.least (a.registers i) (b.registers i)
  pub slots : (i : ℕ) → i < 64 → IsSlotWithin a.least (a.slots i) (b.slots i)
  pub least : IsLeastWithin a.least b.least
