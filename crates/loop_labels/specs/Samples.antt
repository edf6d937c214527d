-- A program that never ends, and one that counts, with its labels.
use Rattle.std.specs.Prelude.{◌≡◌, ◌<◌, ℕ, pos, negsuc, List, ◌∷◌, [], Option, Some, None}
use Rattle.span_context.specs.Context.{SpanBytes}
use Rattle.bpf_words.specs.declared.instruction.Width.TheVariants.{Full}
use Rattle.bpf_words.specs.declared.instruction.Arithmetic.TheVariants.{Mov, Add}
use Rattle.bpf_words.specs.declared.instruction.Comparison.TheVariants.{Less}
use Rattle.bpf_words.specs.declared.instruction.Operand.TheVariants.{Immediate}
use Rattle.bpf_words.specs.declared.instruction.Insn.TheVariants.{Compute, Branch, Jump, Exit}
use Rattle.semantics.specs.State.{State}
use Rattle.semantics.specs.Step.{Program}
use Rattle.loop_labels.specs.Potential.{InRegister, Potential, Bound, potential_of}
use Rattle.loop_labels.specs.Labels.{Label}

-- a jump to itself
abbrev pub jumps_to_itself : Program
jumps_to_itself = Some (Jump (negsuc 0)) ∷ []

-- r0 = 0, r0 += 1, back to the sum where r0 is below 10, and an exit
abbrev pub counts_to_ten : Program
counts_to_ten =
    Some (Compute Full Mov 0 (Immediate (pos 0))) ∷ Some (Compute Full Add 0 (Immediate (pos 1)))
    ∷ Some (Branch Full Less 0 (Immediate (pos 10)) (negsuc 1))
    ∷ Some Exit
    ∷ []

-- r0 holds a number below a limit
pub record HoldsBelow (limit : ℕ) (registers : List (Option ℕ)) : Type 0 where
  pub number : ℕ
  pub rest : List (Option ℕ)
  pub set : registers ≡ Some number ∷ rest
  pub small : number < limit

-- there is an r0, which needn't be set
pub record HasFirst (registers : List (Option ℕ)) : Type 0 where
  pub first : Option ℕ
  pub rest : List (Option ℕ)
  pub is : registers ≡ first ∷ rest

-- that, or a limit of r0, is what is known
abbrev pub is_below : Option ℕ → SpanBytes → State → Type 0
is_below None bytes state = HasFirst state.registers
is_below (Some limit) bytes state = HoldsBelow limit state.registers

-- so many steps, less twice the number in r0
abbrev pub less_twice : ℕ → Potential
less_twice steps = record {
  constant = pos steps;
  per_byte = pos 0;
  per_link_byte = pos 0;
  less = record { weight = pos 2; holder = InRegister 0; base = 0 } ∷ [];
}

abbrev pub at_most : ℕ → Bound
at_most steps = record { constant = steps; per_byte = 0; per_link_byte = 0 }

abbrev pub label_at : ℕ → Option ℕ → Potential → Label (Option ℕ)
label_at slot known potential = record { slot = slot; known = known; potential = potential }

abbrev pub counting_labels : List (Label (Option ℕ))
counting_labels =
    label_at 0 None (potential_of (at_most 22)) ∷ label_at 1 (Some 10) (less_twice 21)
    ∷ label_at 2 (Some 11) (less_twice 22)
    ∷ label_at 3 (Some 11) (potential_of (at_most 1))
    ∷ []
