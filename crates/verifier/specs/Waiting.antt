-- What is known before the slots to which jumps lead.
use Rattle.std.specs.Prelude.{◌≡◌, ℕ, false, List, Option, Some, None, slice_index_or}
use Rattle.tracked_state.specs.declared.state.TrackedState.{TrackedState}
use Rattle.tracked_state.specs.Tracked.{beside}
use Rattle.verifier.specs.declared.waiting.Awaiting.{Awaiting}
use Rattle.span_context.specs.declared.profile.Profile.{Profile}
use Rattle.span_context.specs.Profile.{has_more_rules}
use Rattle.value_marks.specs.Copies.{LieBelow, kept}

abbrev pub Waiting : Type 0
Waiting = List (Option Awaiting)

abbrev pub as_tracked : Awaiting → TrackedState
as_tracked a = beside a.state.value a.copies

abbrev pub unboxed : Option Awaiting → Option TrackedState
unboxed None = None
unboxed (Some a) = Some (as_tracked a)

-- what waits at a slot
abbrev pub waiting_at : Waiting → ℕ → Option TrackedState
waiting_at states slot = unboxed (slice_index_or states slot None)

-- the marks of a state before a slot have their origins below it, and there are none where copies aren't followed
pub record MarksBelow (profile : Profile) (slot : ℕ) (a : TrackedState) : Type 0 where
  pub origins : LieBelow slot (kept a.copies)
  pub unfollowed : has_more_rules profile ≡ false → kept a.copies ≡ None

abbrev pub MarksBelowIn : Profile → ℕ → Option TrackedState → Type 0
MarksBelowIn profile slot None = Unit {0}
MarksBelowIn profile slot (Some a) = MarksBelow profile slot a

abbrev pub WaitBelow : Profile → Waiting → Type 0
WaitBelow profile states = (slot : ℕ) → MarksBelowIn profile slot (waiting_at states slot)
