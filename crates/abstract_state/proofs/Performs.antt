-- What a call that performs an instruction says, from what its parts give.
use Rattle.std.proofs.Common.{◌≡◌, ◌≢◌, ◌↔◌, false, true, ℕ, ℤ, List, ◌∷◌, ◌++◌, Option, Result, Ok, Err, refl, sym, subst}
use Rattle.std.specs.Result.{IfOk, IsErrAnd}
use Rattle.std.proofs.lemmas.Result.{IfOk-weaker}
use Rattle.span_context.specs.declared.profile.Profile.{Profile}
use Rattle.bpf_words.specs.declared.instruction.Arithmetic.{Arithmetic}
use Rattle.bpf_words.specs.declared.instruction.Arithmetic.TheVariants.{Mov}
use Rattle.bpf_words.specs.declared.instruction.Insn.{Insn}
use Rattle.bpf_words.specs.Flow.{read_by, read_first}
use Rattle.abstract_state.specs.declared.refusal.Refusal.{Refusal}
use Rattle.abstract_state.specs.declared.refusal.Refusal.TheVariants.{UnsetRegister}
use Rattle.abstract_state.specs.declared.state.AbsState.{AbsState}
use Rattle.abstract_state.specs.declared.step.Flow.{Flow}
use Rattle.abstract_state.specs.State.{StepsIn, StepsBy}
use Rattle.abstract_state.specs.Steps.{StepsTo, distance_of, after}
use Rattle.abstract_state.specs.Kinds.{ReadsNumbers, ReadsFirst, HasNumberAt}
use Rattle.abstract_state.specs.Unset.{HasUnset}
use Rattle.abstract_state.specs.Performs.{Performs}
use Rattle.abstract_state.proofs.Steps.{lands_in, lands_by}
use Rattle.abstract_state.proofs.Unsets.{reads_first}

-- a refusal that is passed on, which numbers don't get
pub refused : (Steps : AbsState → Insn → ℤ → Option AbsState → Type 0) (a b : AbsState) (insn : Insn) (result : Result Flow Refusal) (e : Refusal) → IsErrAnd result (λ y. y ≡ e) → (ReadsNumbers a insn → false ≡ true) → (e ≡ UnsetRegister) ↔ HasUnset a (read_by insn) → Performs Steps a insn result b
refused Steps a b insn (Ok flow) e is numbers unset = absurd is
refused Steps a b insn (Err y) e is numbers unset = record {
  sound = tt;
  others = tt;
  memory = tt;
  floor = numbers;
  numbers = λ _. tt;
  unset = subst (λ (f : Refusal). (f ≡ UnsetRegister) ↔ HasUnset a (read_by insn)) (sym is) unset;
  set = tt;
}

-- the instruction is that one
pub performs_at : {Steps : AbsState → Insn → ℤ → Option AbsState → Type 0} {a b : AbsState} {insn same : Insn} {result : Result Flow Refusal} → insn ≡ same → Performs Steps a same result b → Performs Steps a insn result b
performs_at {Steps = Steps} {a = a} {b = b} {result = result} is h = subst (λ (i : Insn). Performs Steps a i result b) (sym is) h

-- where it goes on is what step says of it, in a run of the profile
pub lands_so : (profile : Profile) (a b : AbsState) (insn : Insn) (result : Result Flow Refusal) → Performs (StepsIn profile) a insn result b → IfOk result (λ flow. StepsTo profile a insn (after flow b))
lands_so profile a b insn result h = IfOk-weaker result _ _ (λ flow by. lands_in profile a insn insn (distance_of insn) (after flow b) refl refl by) h.sound

pub lands_of_any : (profile : Profile) (a b : AbsState) (insn : Insn) (result : Result Flow Refusal) → Performs StepsBy a insn result b → IfOk result (λ flow. StepsTo profile a insn (after flow b))
lands_of_any profile a b insn result h = IfOk-weaker result _ _ (λ flow by. lands_by profile a insn insn (distance_of insn) (after flow b) refl refl by) h.sound

-- ---- an operation that is no move reads its first register
pub first_number : (a : AbsState) (operation : Arithmetic) (register : ℕ) → operation ≢ Mov → ReadsFirst a operation register → HasNumberAt a register
first_number a Mov register other h = absurd (other refl)
first_number a _ register other h = h

pub first_reads : (operation : Arithmetic) (register : ℕ) (rest : List ℕ) (P : List ℕ → Type 0) → operation ≢ Mov → P (register ∷ rest) → P (read_first operation register ++ rest)
first_reads operation register rest P other h = subst (λ (first : List ℕ). P (first ++ rest)) (sym (reads_first operation register other)) h
