-- How many steps a run has left at most: a linear form in the lengths of what it is lent and in what its registers and
-- its stack hold.
use Rattle.std.specs.Prelude.{ℕ, ℤ, pos, ◌+◌, ◌*◌, ◌+ℤ◌, ◌-ℤ◌, ◌*ℤ◌, List, [], ◌∷◌, length, Option, Some, None}
use Rattle.std.specs.Prelude.{slice_index_or, sum_by}
use Rattle.span_context.specs.Context.{SpanBytes, text_limit, link_limit}
use Rattle.semantics.specs.State.{State}
use Rattle.semantics.specs.Memory.{stack_number}

-- what may hold a number: a register, or eight bytes of the stack, counted in eights
pub data Holder : Type 0 where
  InRegister : ℕ → Holder
  InStack : ℕ → Holder

abbrev pub number_in : State → Holder → Option ℕ
number_in state (InRegister register) = slice_index_or state.registers register None
number_in state (InStack slot) = stack_number state.stack (8 * slot) 8

-- a weight on what a holder holds, counted from a base: from 0 for a number, from where its region begins for an
-- address
pub record Term : Type 0 where
  pub weight : ℤ
  pub holder : Holder
  pub base : ℕ

abbrev pub counted_from : ℕ → Option ℕ → ℤ
counted_from base (Some number) = pos number -ℤ pos base
counted_from base None = pos 0

abbrev pub weighed : State → Term → ℤ
weighed state term = term.weight *ℤ counted_from term.base (number_in state term.holder)

unfoldable pub all_weighed : State → List Term → ℤ
all_weighed state [] = pos 0
all_weighed state (term ∷ terms) = weighed state term +ℤ all_weighed state terms

-- a constant, so many steps for each byte of the text and of the link's text, less what holders hold by their weights
pub record Potential : Type 0 where
  pub constant : ℤ
  pub per_byte : ℤ
  pub per_link_byte : ℤ
  pub less : List Term

abbrev pub potential_at : SpanBytes → State → Potential → ℤ
potential_at bytes state p =
    (p.constant +ℤ (p.per_byte *ℤ pos (length bytes.text) +ℤ p.per_link_byte *ℤ pos (length bytes.link)))
    -ℤ all_weighed state p.less

-- how many steps runs may take: a constant, and so many for each byte of the text and of the link's text
pub record Bound : Type 0 where
  pub constant : ℕ
  pub per_byte : ℕ
  pub per_link_byte : ℕ

abbrev pub steps_within : Bound → SpanBytes → ℕ
steps_within bound bytes =
    bound.constant + (bound.per_byte * length bytes.text + bound.per_link_byte * length bytes.link)

-- so many at most, whatever the span
abbrev pub most_steps : Bound → ℕ
most_steps bound = bound.constant + (bound.per_byte * text_limit + bound.per_link_byte * link_limit)

-- how long the texts and the link's texts of spans are together
abbrev pub text_bytes : List SpanBytes → ℕ
text_bytes spans = sum_by (λ bytes. length bytes.text) spans

abbrev pub link_bytes : List SpanBytes → ℕ
link_bytes spans = sum_by (λ bytes. length bytes.link) spans

-- so many steps within which the runs on all spans end
abbrev pub steps_within_all : Bound → List SpanBytes → ℕ
steps_within_all bound spans =
    bound.constant * length spans + (bound.per_byte * text_bytes spans + bound.per_link_byte * link_bytes spans)

-- the potential that weighs nothing
abbrev pub potential_of : Bound → Potential
potential_of bound = record {
  constant = pos bound.constant;
  per_byte = pos bound.per_byte;
  per_link_byte = pos bound.per_link_byte;
  less = [];
}
