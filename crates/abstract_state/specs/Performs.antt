-- What a call that performs an instruction says of the states before and after it.
use Rattle.std.specs.Prelude.{◌≡◌, ◌↔◌, ℤ, Option, Result, IsOk, IfOk, IfErr, IfSome}
use Rattle.bpf_words.specs.declared.instruction.Insn.{Insn}
use Rattle.bpf_words.specs.Flow.{read_by}
use Rattle.abstract_state.specs.declared.refusal.Refusal.{Refusal}
use Rattle.abstract_state.specs.declared.refusal.Refusal.TheVariants.{UnsetRegister}
use Rattle.abstract_state.specs.declared.state.AbsState.{AbsState}
use Rattle.abstract_state.specs.declared.step.Flow.{Flow}
use Rattle.abstract_state.specs.Steps.{distance_of, after}
use Rattle.abstract_state.specs.Kinds.{ReadsNumbers, Carries}
use Rattle.abstract_state.specs.Guard.{LeavesOthers, LeavesMemory}
use Rattle.abstract_state.specs.Unset.{HasUnset}

-- the instruction makes b of a, or is refused; Steps is StepsBy, or StepsIn of a profile
pub record Performs (Steps : AbsState → Insn → ℤ → Option AbsState → Type 0) (a : AbsState) (insn : Insn)
    (result : Result Flow Refusal) (b : AbsState) : Type 0 where
  -- from each contained state the machine goes on, without a fault, to a contained one
  pub sound : IfOk result (λ flow. Steps a insn (distance_of insn) (after flow b))
  -- registers that it doesn't write stay, and the one that it does is set
  pub others : IfOk result (λ flow. IfSome (after flow b) (λ next. LeavesOthers a insn next))
  -- the stack stays, unless it is a store, and the bounds do
  pub memory : IfOk result (λ flow. IfSome (after flow b) (λ next. LeavesMemory a insn next))
  -- one that reads numbers alone isn't refused
  pub floor : ReadsNumbers a insn → IsOk result
  -- and writes a number
  pub numbers : ReadsNumbers a insn → IfOk result (λ flow. IfSome (after flow b) (λ next. Carries a insn next))
  -- a refusal is for an unset register exactly where one that it reads may be unset
  pub unset : IfErr result (λ e. (e ≡ UnsetRegister) ↔ HasUnset a (read_by insn))
  -- and where it isn't refused none may be
  pub set : IfOk result (λ _. HasUnset a (read_by insn) → ⊥)
