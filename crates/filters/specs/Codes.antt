-- How filters are kept.
use Rattle.span_context.specs.declared.profile.Profile.TheVariants.{Three}
use Rattle.std.specs.Prelude.{◌≤◌}
use Rattle.semantics.specs.Step.{Program}
use Rattle.block_layout.specs.Meaning.{IsForward}
use Rattle.loop_check.specs.Labels.{bound_of}
use Rattle.loop_labels.specs.Bounded.{EndsWithin}
use Rattle.loop_labels.specs.Potential.{most_steps}
use Rattle.loop_verifier.specs.Labelled.{HasLabels}
use Rattle.loop_verifier.specs.Limit.{longest_run}
use Rattle.filters.specs.declared.filter.Code.{Code}
use Rattle.filters.specs.declared.filter.Code.TheVariants.{Straight, Looping}

abbrev pub program_in : Code → Program
program_in (Straight program) = program
program_in (Looping program bound) = program

-- a program with a jump back has a bound, by labels
abbrev pub IsKept : Code → Type 0
IsKept (Straight program) = IsForward program
IsKept (Looping program bound) =
    (¬ IsForward program) × EndsWithin Three program (bound_of bound) × (most_steps (bound_of bound) ≤ longest_run)
    × HasLabels program (bound_of bound)
