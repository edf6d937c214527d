-- Addresses that take the tail that the bounds give them: what they say stays, and no tail is less than before.
use Rattle.std.specs.Prelude.{◌≡◌, ◌≤◌, ℕ, Some}
use Rattle.abstract_state.specs.declared.region.Region.{Region}
use Rattle.abstract_state.specs.declared.address.LentAddress.{LentAddress}
use Rattle.abstract_state.specs.declared.quantity.Quantity.{Quantity}
use Rattle.abstract_state.specs.declared.known.Known.{Known}
use Rattle.abstract_state.specs.declared.known.Known.TheVariants.{Number, Context, Stack, Lent}
use Rattle.abstract_state.specs.declared.slot.Slot.{Slot}
use Rattle.abstract_state.specs.declared.slot.Slot.TheVariants.{Marks, Spilled}
use Rattle.abstract_state.specs.declared.state.AbsReg.{AbsReg}
use Rattle.abstract_state.specs.declared.state.AbsReg.TheVariants.{Unset, Set}
use Rattle.abstract_state.specs.declared.region.Tails.{Tails}
use Rattle.abstract_state.specs.Lent.{tail_of}

-- each tail of a is one of b, or b's is greater
abbrev pub KeepsTails : Tails → Tails → Type 0
KeepsTails a b = (region : Region) (t : ℕ) → tail_of a region ≡ Some t → (u : ℕ) × (tail_of b region ≡ Some u) × (t ≤ u)

pub record KeepsNumber (a b : Quantity) : Type 0 where
  pub bits : b.bits ≡ a.bits
  pub range : b.range ≡ a.range
  pub tails : KeepsTails a.tails b.tails

pub record KeepsAddress (a b : LentAddress) : Type 0 where
  pub region : b.region ≡ a.region
  pub offset : KeepsNumber a.offset b.offset

abbrev pub KeepsKnown : Known → Known → Type 0
KeepsKnown (Number q) k = k ≡ Number q
KeepsKnown (Context p) k = k ≡ Context p
KeepsKnown (Stack p) k = k ≡ Stack p
KeepsKnown (Lent p) k = (q : LentAddress) × (k ≡ Lent q) × KeepsAddress p q

abbrev pub KeepsReg : AbsReg → AbsReg → Type 0
KeepsReg Unset b = b ≡ Unset
KeepsReg (Set k) b = (j : Known) × (b ≡ Set j) × KeepsKnown k j

abbrev pub KeepsSlot : Slot → Slot → Type 0
KeepsSlot (Marks marks) b = b ≡ Marks marks
KeepsSlot (Spilled k) b = (j : Known) × (b ≡ Spilled j) × KeepsKnown k j
