-- The potentials of labels that the check's potentials stand for.
use Rattle.std.specs.Prelude.{ℕ, ℤ, pos, ◌+ℤ◌, ◌-ℤ◌, ◌*ℤ◌, List, [], ◌∷◌, length, if◌then◌else◌}
use Rattle.std.specs.Ordering.{int_eq}
use Rattle.span_context.specs.Context.{text_base, link_base, SpanBytes}
use Rattle.semantics.specs.State.{State}
use Rattle.loop_labels.specs.Potential as labels
use Rattle.label_potentials.specs.declared.potential.Holder.{Holder}
use Rattle.label_potentials.specs.declared.potential.Holder.TheVariants.{Register, StackSlot}
use Rattle.label_potentials.specs.declared.potential.Base.{Base}
use Rattle.label_potentials.specs.declared.potential.Base.TheVariants.{Zero, Text, Link}
use Rattle.label_potentials.specs.declared.potential.Term.{Term}
use Rattle.label_potentials.specs.declared.potential.Potential.{Potential}

abbrev pub holder_of : Holder → labels.Holder
holder_of (Register register) = labels.InRegister register
holder_of (StackSlot slot) = labels.InStack slot

-- a number is counted from 0, an address from where its region begins
abbrev pub base_of : Base → ℕ
base_of Zero = 0
base_of Text = text_base
base_of Link = link_base

abbrev pub term_of : Term → labels.Term
term_of term = record { weight = term.weight; holder = holder_of term.holder; base = base_of term.base }

-- terms of weight 0 are none
unfoldable pub terms_of : List Term → List labels.Term
terms_of [] = []
terms_of (term ∷ rest) = if int_eq term.weight (pos 0) then terms_of rest else term_of term ∷ terms_of rest

abbrev pub potential_of : Potential → labels.Potential
potential_of p = record {
  constant = p.constant;
  per_byte = p.per_byte;
  per_link_byte = p.per_link_byte;
  less = terms_of p.less;
}

-- what a term weighs in a state of the machine
abbrev pub weight_at : State → Term → ℤ
weight_at state term = labels.weighed state (term_of term)

unfoldable pub weights_at : State → List Term → ℤ
weights_at state [] = pos 0
weights_at state (term ∷ rest) = weight_at state term +ℤ weights_at state rest

-- a potential without what its terms weigh, and with it
abbrev pub form_at : SpanBytes → Potential → ℤ
form_at bytes p =
    p.constant +ℤ (p.per_byte *ℤ pos (length bytes.text) +ℤ p.per_link_byte *ℤ pos (length bytes.link))

abbrev pub left_at : SpanBytes → State → Potential → ℤ
left_at bytes state p = form_at bytes p -ℤ weights_at state p.less
