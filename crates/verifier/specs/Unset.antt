-- Instructions that read a register which is not set.
use Rattle.std.specs.Prelude.{◌≡◌, ℕ, ◌<◌, List, None, Contains, slice_index_or}
use Rattle.span_context.specs.declared.profile.Profile.{Profile}
use Rattle.bpf_words.specs.declared.instruction.Insn.{Insn}
use Rattle.bpf_words.specs.Flow.{StartsAt, read_by}
use Rattle.semantics.specs.State.{State}
use Rattle.semantics.specs.Step.{Program}
use Rattle.abstract_state.specs.State.{Span}
use Rattle.program_reads.specs.Runs.{Reaches}
use Rattle.verifier.specs.Plain.{IsFree, Path}

-- the instruction at a slot reads a register that is not set: in a run of the profile that comes there, or, but for r1
-- and r10, because no path to the slot writes it
pub data ReadsUnset (profile : Profile) (program : Program) (slot : ℕ) : Type 0 where
  in_run : (span : Span) (s : State) (insn : Insn) (register : ℕ) → span.profile ≡ profile → Reaches program span s
      → s.slot ≡ slot → StartsAt program slot insn → Contains (read_by insn) register → register < 11
      → slice_index_or s.registers register None ≡ None → ReadsUnset profile program slot
  unwritten : (insn : Insn) (register : ℕ) → StartsAt program slot insn → Contains (read_by insn) register
      → IsFree register → ((done : List ℕ) → Path program slot done → Contains done register → ⊥)
      → ReadsUnset profile program slot
