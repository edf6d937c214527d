-- The same holder, and the same base.
use Rattle.std.specs.Prelude.{nat_eq, Bool, true, false}
use Rattle.label_potentials.specs.declared.potential.Holder.{Holder}
use Rattle.label_potentials.specs.declared.potential.Holder.TheVariants.{Register, StackSlot}
use Rattle.label_potentials.specs.declared.potential.Base.{Base}
use Rattle.label_potentials.specs.declared.potential.Base.TheVariants.{Zero, Text, Link}

abbrev pub is_holder : Holder → Holder → Bool
is_holder (Register a) (Register b) = nat_eq a b
is_holder (Register a) (StackSlot b) = false
is_holder (StackSlot a) (Register b) = false
is_holder (StackSlot a) (StackSlot b) = nat_eq a b

abbrev pub is_base : Base → Base → Bool
is_base Zero Zero = true
is_base Text Text = true
is_base Link Link = true
is_base a b = false
