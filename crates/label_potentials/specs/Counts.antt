-- What an abstract state knows of what a holder holds, counted from a base.
use Rattle.std.specs.Prelude.{◌≡◌, ℕ, pos, Option, Some, None, option_and_then}
use Rattle.semantics.specs.State.{State}
use Rattle.loop_labels.specs.Potential as labels
use Rattle.abstract_state.specs.declared.region.Region.{Region}
use Rattle.abstract_state.specs.declared.region.Region.TheVariants as region
use Rattle.abstract_state.specs.declared.quantity.Quantity.{Quantity}
use Rattle.abstract_state.specs.declared.known.Known.{Known}
use Rattle.abstract_state.specs.declared.known.Known.TheVariants.{Number, Context, Stack, Lent}
use Rattle.abstract_state.specs.declared.address.LentAddress.{LentAddress}
use Rattle.abstract_state.specs.declared.slot.Slot.{Slot}
use Rattle.abstract_state.specs.declared.slot.Slot.TheVariants.{Marks, Spilled}
use Rattle.abstract_state.specs.declared.state.AbsReg.{AbsReg}
use Rattle.abstract_state.specs.declared.state.AbsReg.TheVariants.{Unset, Set}
use Rattle.abstract_state.specs.declared.state.AbsState.{AbsState}
use Rattle.abstract_state.specs.Lent.{Lengths}
use Rattle.abstract_state.specs.Quantity.{Contains as ContainsNumber}
use Rattle.abstract_state.specs.State.{Contains, register_at, slot_at}
use Rattle.label_potentials.specs.declared.potential.Holder.{Holder}
use Rattle.label_potentials.specs.declared.potential.Holder.TheVariants.{Register, StackSlot}
use Rattle.label_potentials.specs.declared.potential.Base.{Base}
use Rattle.label_potentials.specs.declared.potential.Base.TheVariants.{Zero, Text, Link}
use Rattle.label_potentials.specs.Views.{holder_of, base_of}

-- ---- what is known of what a holder holds
abbrev pub known_of : AbsReg → Option Known
known_of Unset = None
known_of (Set known) = Some known

abbrev pub spilled_in : Slot → Option Known
spilled_in (Marks marks) = None
spilled_in (Spilled known) = Some known

abbrev pub held_in : AbsState → Holder → Option Known
held_in a (Register register) = known_of (register_at a.registers register)
held_in a (StackSlot slot) = spilled_in (slot_at a.stack slot)

-- ---- a number, or the offset of an address in the region of the base
abbrev pub offset_in : Base → LentAddress → Region → Option Quantity
offset_in Zero address other = None
offset_in Text address region.Text = Some address.offset
offset_in Text address region.Link = None
offset_in Link address region.Text = None
offset_in Link address region.Link = Some address.offset

abbrev pub number_from : Base → Quantity → Option Quantity
number_from Zero q = Some q
number_from Text q = None
number_from Link q = None

abbrev pub counted_from : Base → Known → Option Quantity
counted_from base (Number q) = number_from base q
counted_from base (Lent address) = offset_in base address address.region
counted_from base (Context address) = None
counted_from base (Stack address) = None

abbrev pub counted_in : AbsState → Holder → Base → Option Quantity
counted_in a holder base = option_and_then (counted_from base) (held_in a holder)

-- ---- in each contained state the number in a holder, counted from a base, is one of a quantity
abbrev pub Counts : AbsState → Holder → Base → Quantity → Type 0
Counts a holder base q =
    (lengths : Lengths) (s : State) → Contains a lengths s
    → (x : ℕ) × (labels.counted_from (base_of base) (labels.number_in s (holder_of holder)) ≡ pos x)
    × ContainsNumber q lengths x
