-- The first fault of a program's structure is one, and a structured program has none.
use Rattle.std.proofs.Common.{◌≡◌, ℕ, ◌<◌, ◌⊎◌, ⊎_elim, length, Some, refl, sym, ap, ◌∙◌, subst, arith}
use Rattle.std.proofs.Common.{Result, Ok, Err, ◌↔◌}
use Rattle.std.specs.Result.{IsErrAnd}
use Rattle.std.proofs.lemmas.Bool.{cases_order}
use Rattle.verifier.specs.declared.refusal.VerifyError.{VerifyError}
use Rattle.verifier.specs.declared.refusal.VerifyError.TheVariants.{Structure, State, OutOfMemory}
use Rattle.std.proofs.lemmas.Option.{slice_get_within, same_Some}
use Rattle.span_context.specs.declared.profile.Profile.{Profile}
use Rattle.bpf_words.specs.declared.instruction.Insn.{Insn}
use Rattle.bpf_words.specs.Flow.{StartsAt}
use Rattle.semantics.specs.Step.{Program}
use Rattle.verifier.specs.declared.refusal.StructureFault.{StructureFault}
use Rattle.verifier.specs.declared.refusal.StructureFault.TheVariants.{BackwardJump, JumpOut, JumpIntoWide, FallOff, WriteR10}
use Rattle.verifier.specs.Plain.{IsPlain}
use Rattle.verifier.specs.Framed.{IsFramed}
use Rattle.verifier.specs.Guard.{IsGuard}
use Rattle.verifier.specs.Arises.{RefusesAt}
use Rattle.abstract_state.specs.declared.refusal.Refusal.{Refusal}
use Rattle.verifier.specs.Reaches.{IsStateBelow}
use Rattle.verifier.specs.Judged.{Rejects}
use Rattle.verifier.specs.Decided.{NamesFirst}
use Rattle.verifier.specs.Structure.{LeastFault, FirstFault, IsOfState, IsStructured, number_of}

same_number : (a b : StructureFault) → number_of a ≡ number_of b → a ≡ b
same_number BackwardJump BackwardJump e = refl
same_number JumpOut JumpOut e = refl
same_number JumpIntoWide JumpIntoWide e = refl
same_number FallOff FallOff e = refl
same_number WriteR10 WriteR10 e = refl
same_number BackwardJump JumpOut e = absurd (omega arith)
same_number BackwardJump JumpIntoWide e = absurd (omega arith)
same_number BackwardJump FallOff e = absurd (omega arith)
same_number BackwardJump WriteR10 e = absurd (omega arith)
same_number JumpOut BackwardJump e = absurd (omega arith)
same_number JumpOut JumpIntoWide e = absurd (omega arith)
same_number JumpOut FallOff e = absurd (omega arith)
same_number JumpOut WriteR10 e = absurd (omega arith)
same_number JumpIntoWide BackwardJump e = absurd (omega arith)
same_number JumpIntoWide JumpOut e = absurd (omega arith)
same_number JumpIntoWide FallOff e = absurd (omega arith)
same_number JumpIntoWide WriteR10 e = absurd (omega arith)
same_number FallOff BackwardJump e = absurd (omega arith)
same_number FallOff JumpOut e = absurd (omega arith)
same_number FallOff JumpIntoWide e = absurd (omega arith)
same_number FallOff WriteR10 e = absurd (omega arith)
same_number WriteR10 BackwardJump e = absurd (omega arith)
same_number WriteR10 JumpOut e = absurd (omega arith)
same_number WriteR10 JumpIntoWide e = absurd (omega arith)
same_number WriteR10 FallOff e = absurd (omega arith)

same_fault : (program : Program) (slot : ℕ) (one other : Insn) (a b : StructureFault) → StartsAt program slot one → StartsAt program slot other → LeastFault program slot one a → LeastFault program slot other b → a ≡ b
same_fault program slot one other a b e f first second =
    let insn : other ≡ one = same_Some other one (same_Some (Some other) (Some one) (sym f ∙ e)) in
    let there : LeastFault program slot one b = subst (λ i. LeastFault program slot i b) insn second in
    let low = first.least b there.here in
    let high = there.least a first.here in
    same_number a b (omega arith)

-- of two first faults
none_before : (program : Program) (i j : ℕ) (a b : StructureFault) → FirstFault program i a → FirstFault program j b → i < j → ⊥
none_before program i j a b first second less = second.before i first.insn less first.starts a first.here.here

pub one_fault : (program : Program) (i j : ℕ) (a b : StructureFault) → FirstFault program i a → FirstFault program j b → (i ≡ j) × (a ≡ b)
one_fault program i j a b first second =
    ⊎_elim
    (λ (same : i ≡ j).
    (same, same_fault program i first.insn second.insn a b first.starts (subst (λ k. StartsAt program k second.insn) (sym same) second.starts) first.here (subst (λ k. LeastFault program k second.insn b) (sym same) second.here)))
    (λ (apart : (i < j) ⊎ (j < i)).
    ⊎_elim
    (λ (less : i < j). absurd (none_before program i j a b first second less))
    (λ (more : j < i). absurd (none_before program j i b a second first more))
    apart)
    (cases_order i j)

pub no_fault : (program : Program) (slot : ℕ) (fault : StructureFault) → IsStructured program → FirstFault program slot fault → ⊥
no_fault program slot fault structured first =
    structured slot first.insn (slice_get_within program slot (Some first.insn) first.starts) first.starts fault first.here.here

-- ---- what is answered
pub named : {T : Type 0} (program : Program) (i j : ℕ) (a b : StructureFault) → FirstFault program i a → (let answer : Result T VerifyError = Err (Structure i a) in answer ≡ Err (Structure j b)) ↔ FirstFault program j b
named program i j a b first = (
  λ e.
      let at : i ≡ j = cc in
      let is : a ≡ b = cc in
      subst (λ k. FirstFault program k b) at (subst (λ f. FirstFault program i f) is first),
  λ second. let same = one_fault program i j a b first second in ap (λ k. Err (Structure k a)) same.0 ∙ ap (λ f. Err (Structure j f)) same.1,
)

pub not_named : {T : Type 0} (r : Result T VerifyError) (e : VerifyError) (slot : ℕ) (fault : StructureFault) → IsErrAnd r (λ y. y ≡ e) → IsOfState e → r ≡ Err (Structure slot fault) → ⊥
not_named (Ok t) e slot fault is of_state at = is
not_named (Err y) e slot fault is of_state at =
    let same : Structure slot fault ≡ e = let other : y ≡ Structure slot fault = (cc) in sym other ∙ is in
    subst IsOfState (sym same) of_state

-- what a refusal of the walk says of a structured program
pub walk_rejects : (profile : Profile) (program : Program) (e : VerifyError) → IsStructured program → IsOfState e → IsStateBelow (length program) e → (IsPlain program → e ≡ OutOfMemory) → (IsFramed program → e ≡ OutOfMemory) → (IsGuard profile program → e ≡ OutOfMemory)
    → ((slot : ℕ) (fault : Refusal) → e ≡ State slot fault → RefusesAt profile program slot fault) → NamesFirst profile program e → Rejects profile program e
walk_rejects profile program (Structure slot fault) structured state below plain framed guard refused first = absurd state
walk_rejects profile program (State slot fault) structured state below plain framed guard refused first = (
  λ other wrong found. no_fault program other wrong structured found,
  below,
  λ right. (let bad : State slot fault ≡ OutOfMemory = plain right in absurd (cc)),
  λ right. (let bad : State slot fault ≡ OutOfMemory = framed right in absurd (cc)),
  λ right. (let bad : State slot fault ≡ OutOfMemory = guard right in absurd (cc)),
  refused slot fault refl,
  first slot fault refl,
)
walk_rejects profile program OutOfMemory structured state below plain framed guard refused first = λ other wrong found. no_fault program other wrong structured found
