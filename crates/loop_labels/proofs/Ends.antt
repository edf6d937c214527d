-- Where labels are inductive, each run ends with a number within the steps that the first label allows.
use Rattle.std.proofs.Common.{◌≡◌, ℕ, ℤ, zero, suc, pos, ◌<ℤ◌, ◌≤ℤ◌, List, Ok, Err, refl, arith}
use Rattle.std.proofs.lemmas.Int.{ints}
use Rattle.span_context.specs.Context.{SpanBytes}
use Rattle.span_context.specs.declared.profile.Profile.{Profile}
use Rattle.semantics.specs.declared.Outcome.{Outcome}
use Rattle.semantics.specs.declared.Outcome.TheVariants.{Done}
use Rattle.semantics.specs.State.{State, start}
use Rattle.semantics.specs.Step.{Program, Stepped, Next, Ends, step}
use Rattle.semantics.specs.Outcomes.{after, outcome_from}
use Rattle.semantics.specs.Safe.{IsSpanIn}
use Rattle.loop_labels.specs.Potential.{Bound, potential_at, potential_of, steps_within, all_weighed}
use Rattle.loop_labels.specs.Bounded.{EndsWithin}
use Rattle.loop_labels.specs.Labels.{Label, Containing, IsAmong, Holds, GoesOn, IsKept, AreInductive}

none_left : (left : ℤ) → pos 1 ≤ℤ left → left ≤ℤ pos 0 → ⊥
none_left left some none = omega (arith, ints)

fewer_left : (next left : ℤ) (steps : ℕ) → next <ℤ left → left ≤ℤ pos (suc steps) → next ≤ℤ pos steps
fewer_left next left steps less few = omega (arith, ints)

after-done : {Known : Type 0} (contains : Containing Known) (labels : List (Label Known)) (bytes : SpanBytes) (left : ℤ)
    (steps slot : ℕ) (rest : State → Outcome)
    → ((label : Label Known) (state : State) → IsAmong labels label → Holds contains label bytes state
    → potential_at bytes state label.potential ≤ℤ pos steps → (value : ℕ) × (rest state ≡ Done value))
    → left ≤ℤ pos (suc steps) → (stepped : Stepped) → GoesOn contains labels bytes left stepped
    → (value : ℕ) × (after stepped slot rest ≡ Done value)
after-done contains labels bytes left steps slot rest ends few (Ok (Next state)) goes =
    ends goes.label state goes.among goes.holds
    (fewer_left (potential_at bytes state goes.label.potential) left steps goes.less few)
after-done contains labels bytes left steps slot rest ends few (Ok (Ends value)) goes = (value, refl)
after-done contains labels bytes left steps slot rest ends few (Err kind) goes = absurd goes

ends_from : {Known : Type 0} (contains : Containing Known) (profile : Profile) (program : Program)
    (labels : List (Label Known))
    → ((label : Label Known) → IsAmong labels label → IsKept contains profile program labels label)
    → (bytes : SpanBytes) → IsSpanIn profile bytes
    → (steps : ℕ) (label : Label Known) (state : State) → IsAmong labels label → Holds contains label bytes state
    → potential_at bytes state label.potential ≤ℤ pos steps
    → (value : ℕ) × (outcome_from program bytes steps state ≡ Done value)
unfolding outcome_from
ends_from contains profile program labels kept bytes span zero label state among holds few =
    absurd (none_left (potential_at bytes state label.potential) ((kept label among).positive bytes state span holds) few)
ends_from contains profile program labels kept bytes span (suc steps) label state among holds few =
    after-done contains labels bytes (potential_at bytes state label.potential) steps state.slot
    (λ next. outcome_from program bytes steps next)
    (ends_from contains profile program labels kept bytes span steps) few (step program bytes state)
    ((kept label among).goes_on bytes state span holds)

whole_at_start : (bytes : SpanBytes) (bound : Bound)
    → potential_at bytes start (potential_of bound) ≤ℤ pos (steps_within bound bytes)
unfolding all_weighed
whole_at_start bytes bound = omega (arith, ints)

pub ends_within : {Known : Type 0} (contains : Containing Known) (profile : Profile) (program : Program)
    (labels : List (Label Known)) (bound : Bound) → AreInductive contains profile program labels bound
    → EndsWithin profile program bound
ends_within contains profile program labels bound inductive bytes span =
    let first = inductive.begins.first in
    ends_from contains profile program labels inductive.kept bytes span (steps_within bound bytes) first start
    (record { place = 0; found = inductive.begins.found }) (inductive.begins.holds bytes span)
    (rw inductive.begins.whole (whole_at_start bytes bound))
