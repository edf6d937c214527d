use Rattle.std.proofs.Common.{refl, sym, subst}
use Rattle.abstract_state.specs.declared.slot.Slot.{Slot}
use Rattle.abstract_state.specs.declared.slot.Slot.TheVariants.{Spilled}
use Rattle.abstract_state.specs.Bounded.{KeepsSlot}
use Rattle.abstract_state.proofs.slot.Slot.bounded.Goals as goal

pub returns-in-Spilled-clause-keeps : goal.returns-in-Spilled-clause-keeps
returns-in-Spilled-clause-keeps c =
    subst (λ (v : Slot). KeepsSlot v (Spilled c.bounded.result)) (sym c.in-Spilled.is) (c.bounded.result, refl, c.bounded.ensures.keeps)
