-- A program that reads one byte of a lent region behind a test that it is there.
use Rattle.std.specs.Prelude.{◌≡◌, ℕ, pos, ◌<◌, ◌≤◌, [], ◌∷◌, Some}
use Rattle.span_context.specs.declared.profile.Profile.{Profile}
use Rattle.span_context.specs.declared.size.Size.TheVariants.{Byte, Double}
use Rattle.bpf_words.specs.declared.instruction.Width.TheVariants.{Full}
use Rattle.bpf_words.specs.declared.instruction.Arithmetic.TheVariants.{Mov, Add}
use Rattle.bpf_words.specs.declared.instruction.Comparison.TheVariants.{Greater}
use Rattle.bpf_words.specs.declared.instruction.Operand.TheVariants.{Immediate, Source}
use Rattle.bpf_words.specs.declared.instruction.Insn.TheVariants.{Compute, Branch, Load, Exit}
use Rattle.semantics.specs.Step.{Program}
use Rattle.abstract_state.specs.declared.region.Region.{Region}
use Rattle.abstract_state.specs.Lent.{begin_field, end_field, limit_of, Lends}

-- r2 and r3 are the region's begin and end; where n bytes are there, r0 is the byte at an offset, and else 0
abbrev pub guard : Region → ℕ → ℕ → Program
guard region n offset =
    Some (Load Double 2 1 (pos (begin_field region)))
    ∷ Some (Load Double 3 1 (pos (end_field region)))
    ∷ Some (Compute Full Mov 4 (Source 2))
    ∷ Some (Compute Full Add 4 (Immediate (pos n)))
    ∷ Some (Compute Full Mov 0 (Immediate (pos 0)))
    ∷ Some (Branch Full Greater 4 (Source 3) (pos 1))
    ∷ Some (Load Byte 0 2 (pos offset))
    ∷ Some Exit
    ∷ []

-- over a region that the profile lends
pub record IsGuard (profile : Profile) (program : Program) : Type 0 where
  pub region : Region
  pub count : ℕ
  pub offset : ℕ
  pub lends : Lends region profile
  pub some : 1 ≤ count
  pub short : count ≤ limit_of region
  pub within : offset < count
  pub fits : offset ≤ 32767
  pub is : program ≡ guard region count offset
