-- The two names that no slot has, a name that is made anew, and which machine states bear marks with these names.
use Rattle.std.specs.Prelude.{◌≡◌, ℕ, nat_eq, if◌then◌else◌, Option, Some, None}
use Rattle.semantics.specs.State.{State}
use Rattle.abstract_state.specs.declared.region.Region.{Region}
use Rattle.abstract_state.specs.declared.region.Region.TheVariants.{Text, Link}
use Rattle.abstract_state.specs.Lent.{Lengths}
use Rattle.value_marks.specs.declared.mark.Mark.{Mark}
use Rattle.value_marks.specs.Marking.{Marking}
use Rattle.value_marks.specs.Bearing.{BearsBy}

-- ---- a program has at most 4,096 slots, so that these name no slot's value: they name the lengths of the regions
abbrev pub text_name : ℕ
text_name = 4096

abbrev pub link_name : ℕ
link_name = 4097

abbrev pub name_of : Region → ℕ
name_of Text = text_name
name_of Link = link_name

pub record NamesLengths (origins : ℕ → ℕ) (lengths : Lengths) : Type 0 where
  pub text : origins text_name ≡ lengths.text
  pub link : origins link_name ≡ lengths.link

-- each mark is true of the machine, in a run whose regions are so long
abbrev pub BearsIn : Lengths → Marking → State → Type 0
BearsIn lengths w s = (origins : ℕ → ℕ) × NamesLengths origins lengths × BearsBy origins w s

-- ---- a run that comes back to a slot names another value there: the marks of the old one are dropped first
abbrev pub unless_named : ℕ → Option Mark → Option Mark
unless_named at None = None
unless_named at (Some m) = if nat_eq m.origin at then None else Some m

abbrev pub without : ℕ → Marking → Marking
without at w = record {
  registers = λ i. unless_named at (w.registers i);
  slots = λ i. unless_named at (w.slots i);
}
