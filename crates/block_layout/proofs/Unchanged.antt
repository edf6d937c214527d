-- A program has its own meaning, and one that has a first jump back isn't without.
use Rattle.std.proofs.Common.{◌≡◌, ℕ, List, refl, sym, subst}
use Rattle.bpf_words.specs.Words.{program_of}
use Rattle.semantics.specs.declared.Outcome.{Outcome}
use Rattle.semantics.specs.declared.Outcome.TheVariants.{Done, Fault, OutOfSteps}
use Rattle.semantics.specs.Step.{Program}
use Rattle.semantics.specs.Outcomes.{outcome}
use Rattle.block_layout.specs.Meaning.{renumbered, MeansSame, IsForward}
use Rattle.block_layout.specs.Structure.{FirstBack}

same_slots : (o : Outcome) → o ≡ renumbered (λ slot. slot) o
same_slots (Done value) = refl
same_slots (Fault slot kind) = refl
same_slots OutOfSteps = refl

itself : (program : Program) → MeansSame program program
itself program = record { place = λ slot. slot; outcomes = λ bytes. same_slots (outcome program bytes) }

pub means_itself : (bytes other : List ℕ) → other ≡ bytes → MeansSame (program_of bytes) (program_of other)
means_itself bytes other same = subst (λ (b : List ℕ). MeansSame (program_of bytes) (program_of b)) (sym same) (itself (program_of bytes))

pub stays_forward : (bytes other : List ℕ) → other ≡ bytes → IsForward (program_of bytes) → IsForward (program_of other)
stays_forward bytes other same forward = subst (λ (b : List ℕ). IsForward (program_of b)) (sym same) forward

pub leads_back : (program : Program) (slot : ℕ) → FirstBack program slot → IsForward program → ⊥
leads_back program slot first forward =
    let on = forward.jumps slot first.insn _ first.starts first.back.1 in
    let clash = on.1 in
    absurd (cc)

pub ruleset unchanged = (means_itself, stays_forward, leads_back)
