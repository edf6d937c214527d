-- The first fault of an instruction, in the order of numbers.
use Rattle.std.proofs.Common.{◌≡◌, ◌≢◌, ℕ, ◌+◌, ◌≤◌, None, refl, arith}
use Rattle.std.proofs.lemmas.Option.{slice_get_within}
use Rattle.bpf_words.specs.declared.instruction.Insn.{Insn}
use Rattle.semantics.specs.Step.{Program}
use Rattle.verifier.specs.declared.refusal.StructureFault.{StructureFault}
use Rattle.verifier.specs.declared.refusal.StructureFault.TheVariants.{BackwardJump, JumpOut, JumpIntoWide, FallOff, WriteR10}
use Rattle.verifier.specs.Structure.{Jumps, Faults, LeastFault, IsSound, number_of}

-- no jump is at fault
abbrev pub LeadsOn : Program → ℕ → Insn → Type 0
LeadsOn program slot insn = (fault : StructureFault) → Jumps program slot insn fault → ⊥

-- of one jump at most one of its faults holds
forward : (program : Program) (slot : ℕ) (insn : Insn) (fault : StructureFault) → fault ≢ BackwardJump → Jumps program slot insn fault → Jumps program slot insn BackwardJump → ⊥
forward program slot insn BackwardJump other f g = other refl
forward program slot insn JumpOut other (d, e, (n, is, out)) (d', e', (m, is')) = cc
forward program slot insn JumpIntoWide other (d, e, (n, is, wide)) (d', e', (m, is')) = cc
forward program slot insn FallOff other (d, e, f) g = f
forward program slot insn WriteR10 other (d, e, f) g = f

inside : (program : Program) (slot : ℕ) (insn : Insn) → Jumps program slot insn JumpIntoWide → Jumps program slot insn JumpOut → ⊥
inside program slot insn (d, e, (n, is, wide)) (d', e', (m, is', out)) =
    let same : n ≡ m = cc in
    let within = slice_get_within program (slot + 1 + n) None wide in
    omega arith

pub least_jump : (program : Program) (slot : ℕ) (insn : Insn) (fault : StructureFault) → Jumps program slot insn fault → LeastFault program slot insn fault
least_jump program slot insn BackwardJump f = record { here = f; least = least }
  where
    least : (other : StructureFault) → Faults program slot insn other → number_of BackwardJump ≤ number_of other
    least BackwardJump g = omega arith
    least JumpOut g = omega arith
    least JumpIntoWide g = omega arith
    least FallOff g = omega arith
    least WriteR10 g = omega arith
least_jump program slot insn JumpOut f = record { here = f; least = least }
  where
    least : (other : StructureFault) → Faults program slot insn other → number_of JumpOut ≤ number_of other
    least BackwardJump g = absurd (forward program slot insn JumpOut (λ e. cc) f g)
    least JumpOut g = omega arith
    least JumpIntoWide g = omega arith
    least FallOff g = omega arith
    least WriteR10 g = omega arith
least_jump program slot insn JumpIntoWide f = record { here = f; least = least }
  where
    least : (other : StructureFault) → Faults program slot insn other → number_of JumpIntoWide ≤ number_of other
    least BackwardJump g = absurd (forward program slot insn JumpIntoWide (λ e. cc) f g)
    least JumpOut g = absurd (inside program slot insn f g)
    least JumpIntoWide g = omega arith
    least FallOff g = omega arith
    least WriteR10 g = omega arith
least_jump program slot insn FallOff (d, e, f) = absurd f
least_jump program slot insn WriteR10 (d, e, f) = absurd f

pub least_fall : (program : Program) (slot : ℕ) (insn : Insn) → LeadsOn program slot insn → Faults program slot insn FallOff → LeastFault program slot insn FallOff
least_fall program slot insn leads f = record { here = f; least = least }
  where
    least : (other : StructureFault) → Faults program slot insn other → number_of FallOff ≤ number_of other
    least BackwardJump g = absurd (leads BackwardJump g)
    least JumpOut g = absurd (leads JumpOut g)
    least JumpIntoWide g = absurd (leads JumpIntoWide g)
    least FallOff g = omega arith
    least WriteR10 g = omega arith

pub least_write : (program : Program) (slot : ℕ) (insn : Insn) → LeadsOn program slot insn → (Faults program slot insn FallOff → ⊥) → Faults program slot insn WriteR10 → LeastFault program slot insn WriteR10
least_write program slot insn leads goes f = record { here = f; least = least }
  where
    least : (other : StructureFault) → Faults program slot insn other → number_of WriteR10 ≤ number_of other
    least BackwardJump g = absurd (leads BackwardJump g)
    least JumpOut g = absurd (leads JumpOut g)
    least JumpIntoWide g = absurd (leads JumpIntoWide g)
    least FallOff g = absurd (goes g)
    least WriteR10 g = omega arith

pub sound : (program : Program) (slot : ℕ) (insn : Insn) → LeadsOn program slot insn → (Faults program slot insn FallOff → ⊥) → (Faults program slot insn WriteR10 → ⊥) → IsSound program slot insn
sound program slot insn leads goes spares BackwardJump f = leads BackwardJump f
sound program slot insn leads goes spares JumpOut f = leads JumpOut f
sound program slot insn leads goes spares JumpIntoWide f = leads JumpIntoWide f
sound program slot insn leads goes spares FallOff f = goes f
sound program slot insn leads goes spares WriteR10 f = spares f
