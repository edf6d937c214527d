-- What is known of the machine with the marks of its values: which machine states that contains, and how the rules take
-- it.
use Rattle.std.specs.Prelude.{◌≡◌, ℕ, Option, Some, None, option_map}
use Rattle.semantics.specs.State.{State}
use Rattle.abstract_state.specs.declared.state.AbsState.{AbsState}
use Rattle.abstract_state.specs.Lent.{Lengths}
use Rattle.abstract_state.specs.State.{Contains}
use Rattle.abstract_state.specs.Situation.{Situation, IsSituation, situation_of}
use Rattle.value_marks.specs.Marking.{Marking, marking_of}
use Rattle.value_marks.specs.Copies.{Bear, AreMarking, LieBelow, kept}
use Rattle.value_marks.specs.declared.copies.Copies.{Copies}
use Rattle.tracked_state.specs.declared.state.TrackedState.{TrackedState}

-- the machine's state is contained, and the marks are true of it
pub record ContainsTracked (a : TrackedState) (lengths : Lengths) (s : State) : Type 0 where
  pub state : Contains a.state lengths s
  pub copies : Bear (kept a.copies) s

abbrev pub WithinTracked : Option TrackedState → Lengths → State → Type 0
WithinTracked o lengths s = (a : TrackedState) × (o ≡ Some a) × ContainsTracked a lengths s

-- a state of an edge with the marks that are true of it too
abbrev pub beside : AbsState → Copies → TrackedState
beside a c = record { state = a; copies = c }

abbrev pub with_copies : Option AbsState → Copies → Option TrackedState
with_copies o c = option_map (λ a. beside a c) o

abbrev pub state_in : Option TrackedState → Option AbsState
state_in o = option_map (λ a. a.state) o

-- the origins of the marks are slots below one, where there is a state
abbrev pub LieBelowIn : ℕ → Option TrackedState → Type 0
LieBelowIn slot None = Unit {0}
LieBelowIn slot (Some a) = LieBelow slot (kept a.copies)

-- ---- as the rules take it; without a marking where copies aren't followed
pub record TrackedSituation : Type 0 where
  pub situation : Situation
  pub marking : Option Marking

abbrev pub tracked : Option Marking → Situation → TrackedSituation
tracked marking s = record { situation = s; marking = marking }

abbrev pub marking_in : TrackedState → Option Marking
marking_in a = option_map marking_of (kept a.copies)

abbrev pub tracked_of : TrackedState → TrackedSituation
tracked_of a = tracked (marking_in a) (situation_of a.state)

-- a state of the code is the situation, and its marks are the marking
pub record IsTracked (a : TrackedState) (t : TrackedSituation) : Type 0 where
  pub state : IsSituation a.state t.situation
  pub copies : AreMarking (kept a.copies) t.marking

-- the code's state is there where the situation is, and is that
abbrev pub IsTrackedIn : Option TrackedState → Option TrackedSituation → Type 0
IsTrackedIn o None = o ≡ None
IsTrackedIn o (Some t) = (a : TrackedState) × (o ≡ Some a) × IsTracked a t
