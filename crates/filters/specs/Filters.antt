-- Programs that may be attached to the text: every run ends with a number, which is the verdict.
use Rattle.std.specs.Prelude.{◌≡◌, ℕ, ◌≤◌}
use Rattle.span_context.specs.Context.{SpanBytes}
use Rattle.span_context.specs.declared.profile.Profile.TheVariants.{Two, Three}
use Rattle.semantics.specs.declared.Outcome.{Outcome}
use Rattle.semantics.specs.State.{start}
use Rattle.semantics.specs.Step.{Program}
use Rattle.semantics.specs.Outcomes.{outcome_from}
use Rattle.semantics.specs.Safe.{IsSpan, Safe}
use Rattle.block_layout.specs.Meaning.{IsForward}
use Rattle.loop_labels.specs.Bounded.{EndsWithin}
use Rattle.loop_labels.specs.Potential.{Bound, most_steps}
unfoldable pub use Rattle.loop_verifier.specs.Limit.{longest_run}
use Rattle.interpreter.specs.Within.{EndsIn}
use Rattle.program_reads.specs.declared.reads.Reads.{Reads}
use Rattle.program_reads.specs.Reads.{AgreesOn}

-- how a run that is left so many steps ends
abbrev pub whole_outcome : Program → SpanBytes → Outcome
whole_outcome program bytes = outcome_from program bytes longest_run start

-- every run on a span ends with a number; where no jump leads back, within as many steps as the program has slots
pub record IsFilter (program : Program) : Type 0 where
  pub ends : EndsIn longest_run program
  pub straight : IsForward program → Safe program

-- the same number of steps for each span
abbrev pub constant_bound : ℕ → Bound
constant_bound steps = record { constant = steps; per_byte = 0; per_link_byte = 0 }

-- the bound, and every run on a span ends with a number within it
pub record IsBoundOf (program : Program) (bound : Bound) : Type 0 where
  pub ends : EndsWithin Two program bound
  pub limit : most_steps bound ≤ longest_run

-- spans that agree on what is listed have one outcome
abbrev pub DeterminesRuns : Reads → Program → Type 0
DeterminesRuns reads program =
    (a b : SpanBytes) → IsSpan a → IsSpan b → AgreesOn reads a b → whole_outcome program a ≡ whole_outcome program b
