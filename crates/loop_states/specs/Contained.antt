-- What is known before an instruction of a program that may loop, and which machine states that contains: the marks
-- name slots that a run may meet again, and the two lengths.
use Rattle.std.specs.Prelude.{◌≡◌, ℕ, ℤ, Bool, Option, Some, None, Ok, Err}
use Rattle.bpf_words.specs.declared.instruction.Insn.{Insn}
use Rattle.bpf_words.specs.declared.instruction.Width.{Width}
use Rattle.bpf_words.specs.declared.instruction.Comparison.{Comparison}
use Rattle.bpf_words.specs.declared.instruction.Operand.{Operand}
use Rattle.span_context.specs.declared.profile.Profile.TheVariants.{Three}
use Rattle.semantics.specs.State.{State, register_of, operand_in}
use Rattle.semantics.specs.Step.{Moved, On, Returns}
use Rattle.semantics.specs.Value.{cut, holds_of}
use Rattle.abstract_state.specs.Lent.{Lengths}
use Rattle.abstract_state.specs.State.{Span, lengths_of, Contains, does}
use Rattle.abstract_state.specs.Steps.{distance_of}
use Rattle.value_marks.specs.declared.marks.Marks.{Marks}
use Rattle.value_marks.specs.Marking.{marking_of}
use Rattle.value_marks.specs.Copies.{kept}
use Rattle.tracked_state.specs.declared.state.TrackedState.{TrackedState}
use Rattle.length_marks.specs.Names.{BearsIn}

abbrev pub BearIn : Lengths → Option Marks → State → Type 0
BearIn lengths None s = Unit {0}
BearIn lengths (Some marks) s = BearsIn lengths (marking_of marks) s

-- the machine's state is contained, and the marks are true of it, in a run whose regions are so long
pub record ContainsInLoop (a : TrackedState) (lengths : Lengths) (s : State) : Type 0 where
  pub state : Contains a.state lengths s
  pub marks : BearIn lengths (kept a.copies) s

abbrev pub WithinInLoop : Option TrackedState → Lengths → State → Type 0
WithinInLoop o lengths s = (a : TrackedState) × (o ≡ Some a) × ContainsInLoop a lengths s

-- no fault; the next state, if there is one, is contained, and lies that far on; an end of the run has a live answer
abbrev pub LandsInLoop : Option TrackedState → Lengths → ℤ → Moved → Type 0
LandsInLoop o lengths distance (Ok (On next far)) = (far ≡ distance) × WithinInLoop o lengths next
LandsInLoop o lengths distance (Ok (Returns value)) = (a : TrackedState) × (o ≡ Some a)
LandsInLoop o lengths distance (Err kind) = ⊥

-- from each contained state of a run
abbrev pub StepsInLoop : TrackedState → Insn → Option TrackedState → Type 0
StepsInLoop a insn o =
    (span : Span) (s : State) → span.profile ≡ Three → ContainsInLoop a (lengths_of span) s
    → LandsInLoop o (lengths_of span) (distance_of insn) (does span s insn)

-- from each contained state both sides are set, and where the comparison holds, or doesn't, as it is taken, the state
-- is in the edge
abbrev pub EdgeInLoop : TrackedState → Width → Comparison → ℕ → Operand → Bool → Option TrackedState → Type 0
EdgeInLoop a width comparison left right taken edge =
    (span : Span) (s : State) → ContainsInLoop a (lengths_of span) s
    → (m : ℕ) × ((n : ℕ) × (register_of s left ≡ Ok m) × (operand_in s right ≡ Ok n)
    × (holds_of comparison width (cut width m) (cut width n) ≡ taken → WithinInLoop edge (lengths_of span) s))
