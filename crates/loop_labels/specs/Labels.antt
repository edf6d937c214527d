-- Labels of a program: what is known where a run is at a slot, and how many steps it has left at most. What is known is
-- of any type, of which it is told which states of the machine it contains.
use Rattle.std.specs.Prelude.{◌≡◌, ℕ, pos, ◌<ℤ◌, ◌≤ℤ◌, ℤ, List, slice_get, Some, Ok, Err}
use Rattle.span_context.specs.Context.{SpanBytes}
use Rattle.span_context.specs.declared.profile.Profile.{Profile}
use Rattle.semantics.specs.State.{State, start}
use Rattle.semantics.specs.Step.{Program, Stepped, Next, Ends, step}
use Rattle.semantics.specs.Safe.{IsSpanIn}
use Rattle.loop_labels.specs.Potential.{Potential, Bound, potential_at, potential_of}

-- of a slot there may be several, or none
pub record Label (Known : Type 0) : Type 0 where
  pub slot : ℕ
  pub known : Known
  pub potential : Potential

-- which states of the machine, on what a span lends, are contained in what is known
abbrev pub Containing : Type 0 → Type 1
Containing Known = Known → SpanBytes → State → Type 0

pub record IsAmong {Known : Type 0} (labels : List (Label Known)) (label : Label Known) : Type 0 where
  pub place : ℕ
  pub found : slice_get labels place ≡ Some label

-- the machine is at the label's slot, in a state that is contained in what is known there
pub record Holds {Known : Type 0} (contains : Containing Known) (label : Label Known) (bytes : SpanBytes)
    (state : State) : Type 0 where
  pub here : state.slot ≡ label.slot
  pub contained : contains label.known bytes state

-- a label holds, and its potential is less
pub record HoldsLess {Known : Type 0} (contains : Containing Known) (labels : List (Label Known)) (bytes : SpanBytes)
    (left : ℤ) (state : State) : Type 0 where
  pub label : Label Known
  pub among : IsAmong labels label
  pub holds : Holds contains label bytes state
  pub less : potential_at bytes state label.potential <ℤ left

-- a step meets no fault; it ends the run, or leads to where a label holds with a lesser potential
abbrev pub GoesOn : {Known : Type 0} → Containing Known → List (Label Known) → SpanBytes → ℤ → Stepped → Type 0
GoesOn contains labels bytes left (Ok (Next next)) = HoldsLess contains labels bytes left next
GoesOn contains labels bytes left (Ok (Ends value)) = Unit {0}
GoesOn contains labels bytes left (Err kind) = ⊥

-- wherever the label holds, its potential is at least 1, and the step goes on
pub record IsKept {Known : Type 0} (contains : Containing Known) (profile : Profile) (program : Program)
    (labels : List (Label Known)) (label : Label Known) : Type 0 where
  pub positive : (bytes : SpanBytes) (state : State) → IsSpanIn profile bytes → Holds contains label bytes state
      → pos 1 ≤ℤ potential_at bytes state label.potential
  pub goes_on : (bytes : SpanBytes) (state : State) → IsSpanIn profile bytes → Holds contains label bytes state
      → GoesOn contains labels bytes (potential_at bytes state label.potential) (step program bytes state)

-- the first label holds at each start, and its potential is the bound
pub record Begins {Known : Type 0} (contains : Containing Known) (profile : Profile) (labels : List (Label Known))
    (bound : Bound) : Type 0 where
  pub first : Label Known
  pub found : slice_get labels 0 ≡ Some first
  pub whole : first.potential ≡ potential_of bound
  pub holds : (bytes : SpanBytes) → IsSpanIn profile bytes → Holds contains first bytes start

pub record AreInductive {Known : Type 0} (contains : Containing Known) (profile : Profile) (program : Program)
    (labels : List (Label Known)) (bound : Bound) : Type 0 where
  pub begins : Begins contains profile labels bound
  pub kept : (label : Label Known) → IsAmong labels label → IsKept contains profile program labels label
