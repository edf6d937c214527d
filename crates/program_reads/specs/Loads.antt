-- That a list covers the loads of a program.
use Rattle.std.specs.Prelude.{◌≡◌, ℕ, List, Option, None, Ok, slice_index_or}
use Rattle.bpf_words.specs.declared.instruction.Insn.{Insn}
use Rattle.bpf_words.specs.declared.instruction.Insn.TheVariants.{Compute, Negate, Extend, Convert, Jump, JumpLong}
use Rattle.bpf_words.specs.declared.instruction.Insn.TheVariants.{Branch, Load, LoadSigned, Store, LoadWide, Exit}
use Rattle.span_context.specs.declared.profile.Profile.{Profile}
use Rattle.bpf_words.specs.Flow.{StartsAt}
use Rattle.semantics.specs.Memory.{address_of, bytes_in, bytes_in_signed}
use Rattle.semantics.specs.State.{State, register_of}
use Rattle.semantics.specs.Step.{Program}
use Rattle.abstract_state.specs.declared.state.AbsState.{AbsState}
use Rattle.abstract_state.specs.Lent.{Lengths}
use Rattle.abstract_state.specs.State.{Span, WithinState}
use Rattle.program_reads.specs.Runs.{Reaches}
use Rattle.program_reads.specs.declared.reads.Reads.{Reads}
use Rattle.program_reads.specs.Reads.{CoversAt}

-- the bytes that an instruction loads in a state are listed
abbrev pub CoversLoad : Reads → State → Insn → Type 0
CoversLoad reads s (Compute width operation destination operand) = Unit {0}
CoversLoad reads s (Negate width destination) = Unit {0}
CoversLoad reads s (Extend extension destination source) = Unit {0}
CoversLoad reads s (Convert conversion bits destination) = Unit {0}
CoversLoad reads s (Jump distance) = Unit {0}
CoversLoad reads s (JumpLong distance) = Unit {0}
CoversLoad reads s (Branch width comparison left right distance) = Unit {0}
CoversLoad reads s (Load size destination base offset) =
    (n : ℕ) → register_of s base ≡ Ok n → CoversAt reads (address_of n offset) (bytes_in size)
CoversLoad reads s (LoadSigned size destination base offset) =
    (n : ℕ) → register_of s base ≡ Ok n → CoversAt reads (address_of n offset) (bytes_in_signed size)
CoversLoad reads s (Store size base offset value) = Unit {0}
CoversLoad reads s (LoadWide destination value) = Unit {0}
CoversLoad reads s Exit = Unit {0}

-- so are the bytes that each run of the profile loads
abbrev pub CoversRuns : Reads → Profile → Program → Type 0
CoversRuns reads profile program =
    (span : Span) (s : State) (insn : Insn) → span.profile ≡ profile → Reaches program span s
    → StartsAt program s.slot insn → CoversLoad reads s insn

-- and those that an instruction loads in any state that is known before it
abbrev pub CoversStates : Reads → Program → List (Option AbsState) → Type 0
CoversStates reads program states =
    (slot : ℕ) (insn : Insn) (lengths : Lengths) (s : State) → StartsAt program slot insn
    → WithinState (slice_index_or states slot None) lengths s → CoversLoad reads s insn
