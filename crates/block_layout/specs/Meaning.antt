-- Programs of the same meaning, and programs without a jump back.
use Rattle.std.specs.Prelude.{◌≡◌, ℕ, ℤ, pos, Some}
use Rattle.span_context.specs.Context.{SpanBytes}
use Rattle.bpf_words.specs.declared.instruction.Insn.{Insn}
use Rattle.bpf_words.specs.Flow.{StartsAt, jump_of}
use Rattle.semantics.specs.declared.Outcome.{Outcome}
use Rattle.semantics.specs.declared.Outcome.TheVariants.{Done, Fault, OutOfSteps}
use Rattle.semantics.specs.Step.{Program}
use Rattle.semantics.specs.Outcomes.{outcome}

-- an outcome whose fault, if it is one, is named by another slot
abbrev pub renumbered : (ℕ → ℕ) → Outcome → Outcome
renumbered place (Done value) = Done value
renumbered place (Fault slot kind) = Fault (place slot) kind
renumbered place OutOfSteps = OutOfSteps

-- on every span both runs end with the same number, or both meet the same fault, at the slot to which it was moved, or
-- neither ends
pub record MeansSame (old new : Program) : Type 0 where
  pub place : ℕ → ℕ
  pub outcomes : (bytes : SpanBytes) → outcome new bytes ≡ renumbered place (outcome old bytes)

-- a jump of a distance that leads forward
abbrev pub IsOn : ℤ → Type 0
IsOn distance = (n : ℕ) × (distance ≡ pos n)

-- no jump leads back
pub record IsForward (program : Program) : Type 0 where
  pub jumps : (slot : ℕ) (insn : Insn) (distance : ℤ) → StartsAt program slot insn → jump_of insn ≡ Some distance
      → IsOn distance
