-- What is known of what terms weigh, and a number that a potential is at least by that.
use Rattle.std.specs.Prelude.{◌≡◌, ℕ, ℤ, pos, ◌*ℤ◌, ◌≤ℤ◌, List, map, Option, Some, None, option_map, if◌then◌else◌}
use Rattle.std.specs.Ordering.{int_eq}
use Rattle.semantics.specs.State.{State}
use Rattle.potentials.specs.declared.Form.{Form}
use Rattle.potentials.specs.declared.Weighed.{Weighed}
use Rattle.potentials.specs.Values.{IsOf}
use Rattle.potentials.specs.Least.{least_of}
use Rattle.abstract_state.specs.declared.quantity.Quantity.{Quantity}
use Rattle.abstract_state.specs.declared.state.AbsState.{AbsState}
use Rattle.abstract_state.specs.Lent.{Lengths}
use Rattle.abstract_state.specs.State.{Contains}
use Rattle.label_potentials.specs.declared.potential.Term.{Term}
use Rattle.label_potentials.specs.declared.potential.Potential.{Potential}
use Rattle.label_potentials.specs.Views.{weight_at}
use Rattle.label_potentials.specs.Counts.{counted_in}

-- ---- what is known of it, with the weight; a term of weight 0 counts nothing
abbrev pub weighed_as : ℤ → Quantity → Weighed
weighed_as weight q = record {
  weight = weight;
  low = q.range.low;
  high = q.range.high;
  tail = q.tails.text;
  link_tail = q.tails.link;
}

abbrev pub no_weight : Weighed
no_weight = record { weight = pos 0; low = 0; high = 0; tail = None; link_tail = None }

abbrev pub weighed_in : AbsState → Term → Option Weighed
weighed_in a term =
    if int_eq term.weight (pos 0) then Some no_weight
    else option_map (weighed_as term.weight) (counted_in a term.holder term.base)

-- in each contained state a term weighs what it weighs at one of the values
abbrev pub Weighs : AbsState → Term → Weighed → Type 0
Weighs a term weighed =
    (lengths : Lengths) (s : State) → Contains a lengths s
    → (x : ℕ) × IsOf weighed lengths.text lengths.link x × (weighed.weight *ℤ pos x ≡ weight_at s term)

-- ---- something is known of each term, and by that the potential is at least 1
abbrev pub form_of : Potential → Form
form_of p = record { constant = p.constant; per_byte = p.per_byte; per_link_byte = p.per_link_byte }

pub record IsPositive (a : AbsState) (p : Potential) : Type 0 where
  pub weighed : List Weighed
  pub known : map (weighed_in a) p.less ≡ map Some weighed
  pub enough : pos 1 ≤ℤ least_of (form_of p) weighed a.bounds.text a.bounds.link
