-- Programs of which every run ends with a number within so many steps; the number with which a run ends.
use Rattle.std.specs.Prelude.{◌≡◌, ℕ}
use Rattle.span_context.specs.Context.{SpanBytes}
use Rattle.span_context.specs.declared.profile.Profile.{Profile}
use Rattle.semantics.specs.declared.Outcome.TheVariants.{Done, OutOfSteps}
use Rattle.semantics.specs.State.{start}
use Rattle.semantics.specs.Step.{Program}
use Rattle.semantics.specs.Outcomes.{outcome_from}
use Rattle.semantics.specs.Safe.{IsSpanIn}
use Rattle.loop_labels.specs.Potential.{Bound, steps_within}

-- within some number of steps the run on a span ends with the number
abbrev pub EndsWith : Program → SpanBytes → ℕ → Type 0
EndsWith program bytes value = (steps : ℕ) × (outcome_from program bytes steps start ≡ Done value)

-- on all that a profile lends the run ends with a number, within the bound's steps
abbrev pub EndsWithin : Profile → Program → Bound → Type 0
EndsWithin profile program bound =
    (bytes : SpanBytes) → IsSpanIn profile bytes
    → (value : ℕ) × (outcome_from program bytes (steps_within bound bytes) start ≡ Done value)

-- the run on a span doesn't end, whatever steps it is left
abbrev pub NeverEnds : Program → SpanBytes → Type 0
NeverEnds program bytes = (steps : ℕ) → outcome_from program bytes steps start ≡ OutOfSteps
