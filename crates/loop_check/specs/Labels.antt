-- The labels that the check's labels are, of which there is one for a slot, or none.
use Rattle.std.specs.Prelude.{◌≡◌, ℕ, pos, ◌+◌, List, [], ◌∷◌, Option, Some, None}
use Rattle.loop_labels.specs.Potential as law
use Rattle.loop_labels.specs.Labels as labels
use Rattle.label_potentials.specs.declared.potential.Potential.{Potential}
use Rattle.label_potentials.specs.Views.{potential_of}
use Rattle.loop_check.specs.declared.label.Label.{Label}
use Rattle.loop_check.specs.declared.label.Bound.{Bound}

-- what is known at a slot is all that the label says
abbrev pub labelled : ℕ → Label → labels.Label Label
labelled slot label = record { slot = slot; known = label; potential = potential_of label.potential }

unfoldable pub labels_from : ℕ → List (Option Label) → List (labels.Label Label)
labels_from slot [] = []
labels_from slot (None ∷ rest) = labels_from (slot + 1) rest
labels_from slot (Some label ∷ rest) = labelled slot label ∷ labels_from (slot + 1) rest

-- those that there are, in the order of their slots
abbrev pub labels_of : List (Option Label) → List (labels.Label Label)
labels_of all = labels_from 0 all

abbrev pub bound_of : Bound → law.Bound
bound_of bound = record {
  constant = bound.constant;
  per_byte = bound.per_byte;
  per_link_byte = bound.per_link_byte;
}

-- a potential is the bound, but for its terms
pub record HasForm (p : Potential) (bound : Bound) : Type 0 where
  pub constant : p.constant ≡ pos bound.constant
  pub per_byte : p.per_byte ≡ pos bound.per_byte
  pub per_link_byte : p.per_link_byte ≡ pos bound.per_link_byte
