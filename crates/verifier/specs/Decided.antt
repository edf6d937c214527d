-- How the walk over the slots finds what is known before each, and the first that is refused.
use Rattle.std.specs.Prelude.{◌≡◌, ℕ, ◌+◌, ◌≤◌, Option}
use Rattle.span_context.specs.declared.profile.Profile.{Profile}
use Rattle.bpf_words.specs.declared.instruction.Insn.{Insn}
use Rattle.semantics.specs.Step.{Program}
use Rattle.abstract_state.specs.declared.refusal.Refusal.{Refusal}
use Rattle.tracked_state.specs.declared.state.TrackedState.{TrackedState}
use Rattle.tracked_state.specs.Tracked.{TrackedSituation, IsTrackedIn}
use Rattle.verifier.specs.declared.refusal.VerifyError.{VerifyError}
use Rattle.verifier.specs.declared.refusal.VerifyError.TheVariants.{State as StateRefused}
use Rattle.verifier.specs.Waiting.{Waiting, waiting_at}
use Rattle.verifier.specs.Awaited.{Waits, Awaited, passed}
use Rattle.verifier.specs.Decides.{Refuses, FirstRefusal}

abbrev pub WaitsFrom : ℕ → Waiting → Waits → Type 0
WaitsFrom from waiting w = (at : ℕ) → from ≤ at → IsTrackedIn (waiting_at waiting at) (w at)

-- the code's states are what falls into a slot, and what waits from there on
pub record Awaits (slot : ℕ) (o : Option TrackedState) (waiting : Waiting) (a : Awaited) : Type 0 where
  pub falls : IsTrackedIn o a.falling
  pub waits : WaitsFrom slot waiting a.waiting

-- an instruction isn't refused, and the code's states are what it leads on
pub record Passes (profile : Profile) (slot : ℕ) (insn : Insn) (known : Option TrackedSituation) (w : Waits)
    (o : Option TrackedState) (waiting : Waiting) : Type 0 where
  pub allowed : (fault : Refusal) → Refuses profile slot insn known fault → ⊥
  pub awaits : Awaits (slot + 1) o waiting (passed profile slot insn known w)

-- an answer that names a slot names this one, and its fault
abbrev pub NamesSlot : Profile → ℕ → Insn → Option TrackedSituation → VerifyError → Type 0
NamesSlot profile slot insn known e =
    (at : ℕ) (fault : Refusal) → e ≡ StateRefused at fault → (at ≡ slot) × Refuses profile slot insn known fault

-- the same of the first slot of the program
abbrev pub NamesFirst : Profile → Program → VerifyError → Type 0
NamesFirst profile program e =
    (at : ℕ) (fault : Refusal) → e ≡ StateRefused at fault → FirstRefusal profile program at fault
