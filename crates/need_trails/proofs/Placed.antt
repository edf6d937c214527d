-- The instruction of a slot.
use Rattle.std.proofs.Common.{◌≡◌, ℕ, zero, suc, ◌<◌, ◌≤◌, [], ◌∷◌, length, Option, Some, None, arith}
use Rattle.std.specs.Prelude.{slice_get}
use Rattle.bpf_words.specs.declared.instruction.Insn.{Insn}
use Rattle.semantics.specs.Step.{Program}
use Rattle.need_trails.specs.Trail.{insn_at}

pub insn_is : (program : Program) (slot : ℕ) (o : Option Insn) → (slot < length program → slice_get program slot ≡ Some o) → (length program ≤ slot → o ≡ None) → o ≡ insn_at program slot
insn_is [] slot o inside past = past (omega arith)
insn_is (x ∷ program) zero o inside past = let is = inside (omega arith) in cc
insn_is (x ∷ program) (suc slot) o inside past =
    insn_is program slot o (λ less. inside (omega (arith, less))) (λ le. past (omega (arith, le)))
