-- The states that the runs of a program come to, and what is known of them.
use Rattle.std.specs.Prelude.{◌≡◌, ℕ, ◌<◌, List, length, Option, None, Ok, slice_index_or}
use Rattle.span_context.specs.declared.profile.Profile.{Profile}
use Rattle.semantics.specs.State.{State, start}
use Rattle.semantics.specs.Step.{Program, Next, step}
use Rattle.abstract_state.specs.declared.state.AbsState.{AbsState}
use Rattle.abstract_state.specs.State.{Span, lengths_of, WithinState}

-- the run on a span comes to a state
pub data Reaches (program : Program) (span : Span) : State → Type 0 where
  at_start : Reaches program span start
  by_step : {s next : State} → Reaches program span s → step program span.bytes s ≡ Ok (Next next)
      → Reaches program span next

-- what is known before a slot contains each state that a run of the profile comes to there; where nothing is known, no
-- run comes there
abbrev pub ContainsRuns : Profile → Program → ℕ → Option AbsState → Type 0
ContainsRuns profile program slot known =
    (span : Span) (s : State) → span.profile ≡ profile → Reaches program span s → s.slot ≡ slot
    → WithinState known (lengths_of span) s

-- so does what is known before each slot
abbrev pub ContainAllRuns : Profile → Program → List (Option AbsState) → Type 0
ContainAllRuns profile program states =
    (slot : ℕ) → slot < length program → ContainsRuns profile program slot (slice_index_or states slot None)
