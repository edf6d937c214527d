-- What the walk over the slots knows of the states that runs come to.
use Rattle.std.specs.Prelude.{◌≡◌, ℕ, ◌<◌, ◌≤◌, List, length, Option, None, Ok, slice_index_or}
use Rattle.span_context.specs.declared.profile.Profile.{Profile}
use Rattle.bpf_words.specs.declared.instruction.Insn.{Insn}
use Rattle.bpf_words.specs.Flow.{StartsAt}
use Rattle.semantics.specs.State.{State, start}
use Rattle.program_reads.specs.declared.reads.Reads.{Reads}
use Rattle.program_reads.specs.Runs.{Reaches, ContainsRuns}
use Rattle.program_reads.specs.Loads.{CoversLoad}
use Rattle.semantics.specs.Step.{Program, Next, step}
use Rattle.abstract_state.specs.State.{Span, lengths_of}
use Rattle.tracked_state.specs.declared.state.TrackedState.{TrackedState}
use Rattle.tracked_state.specs.Tracked.{WithinTracked, state_in}
use Rattle.verifier.specs.declared.refusal.VerifyError.{VerifyError}
use Rattle.verifier.specs.declared.refusal.VerifyError.TheVariants.{Structure, State as StateRefused, OutOfMemory}
use Rattle.verifier.specs.Waiting.{Waiting}
use Rattle.verifier.specs.Walk.{IsAwaited}
use Rattle.verifier.specs.Arises.{ArisesAt}

-- each state that is known arises from the program's steps
abbrev pub AriseEverywhere : Profile → Program → List (Option TrackedState) → Type 0
AriseEverywhere profile program states =
    (slot : ℕ) (insn : Insn) → StartsAt program slot insn
    → ArisesAt profile program slot (slice_index_or states slot None)

-- what is known before a slot contains each state that a run of the profile comes to there, with its copies; where
-- nothing is known, no run comes there
abbrev pub TracksRuns : Profile → Program → ℕ → Option TrackedState → Type 0
TracksRuns profile program slot known =
    (span : Span) (s : State) → span.profile ≡ profile → Reaches program span s → s.slot ≡ slot
    → WithinTracked known (lengths_of span) s

-- so does what is known before each slot, with the copies and without them
abbrev pub TrackAllRuns : Profile → Program → List (Option TrackedState) → Type 0
TrackAllRuns profile program states =
    (slot : ℕ) → slot < length program → TracksRuns profile program slot (slice_index_or states slot None)

abbrev pub ContainEachRun : Profile → Program → List (Option TrackedState) → Type 0
ContainEachRun profile program states =
    (slot : ℕ) → slot < length program
    → ContainsRuns profile program slot (state_in (slice_index_or states slot None))

-- what each run of the profile loads at a slot below is listed
abbrev pub ListsBelow : Profile → Program → ℕ → Reads → Type 0
ListsBelow profile program end reads =
    (span : Span) (s : State) (insn : Insn) → span.profile ≡ profile → Reaches program span s → s.slot < end
    → StartsAt program s.slot insn → CoversLoad reads s insn

-- a refusal for what is known at a slot below, or for want of memory
abbrev pub IsStateBelow : ℕ → VerifyError → Type 0
IsStateBelow end (Structure slot fault) = ⊥
IsStateBelow end (StateRefused slot fault) = slot < end
IsStateBelow end OutOfMemory = Unit {0}

-- a refusal for what is known comes at a slot below
abbrev pub IsBefore : ℕ → VerifyError → Type 0
IsBefore end (Structure slot fault) = Unit {0}
IsBefore end (StateRefused slot fault) = slot < end
IsBefore end OutOfMemory = Unit {0}

-- ---- how the walk keeps it
-- the run comes to a state by a step from below a slot, or it begins there
pub data Enters (program : Program) (span : Span) (slot : ℕ) : State → Type 0 where
  from_start : Enters program span slot start
  from_below : {s next : State} → Reaches program span s → s.slot < slot → step program span.bytes s ≡ Ok (Next next)
      → Enters program span slot next

-- each state from a slot on that a run of the profile enters from below is awaited
abbrev pub Covers : Profile → Program → ℕ → Option TrackedState → Waiting → Type 0
Covers profile program slot falling waiting =
    (span : Span) (s : State) → span.profile ≡ profile → Enters program span slot s → slot ≤ s.slot
    → IsAwaited program slot falling waiting (lengths_of span) s
