-- What waits, where one slot's entry is written.
use Rattle.std.proofs.Common.{◌≡◌, ◌≢◌, ℕ, ◌<◌, ◌≤◌, length, set, get_or, Option, Some, None, refl, sym, ap, ◌∙◌, subst, ⊎_elim, length-set}
use Rattle.std.proofs.lemmas.List.{get_or-set_same, get_or-set_other}
use Rattle.std.proofs.lemmas.Option.{same_Some, slice_get_read, get_or_from_slice_get}
use Rattle.std.proofs.lemmas.Bool.{cases_eq}
use Rattle.semantics.specs.State.{State}
use Rattle.tracked_state.specs.declared.state.TrackedState.{TrackedState}
use Rattle.abstract_state.specs.Lent.{Lengths}
use Rattle.std.specs.Option.{IfSome}
use Rattle.span_context.specs.declared.profile.Profile.{Profile}
use Rattle.abstract_state.specs.declared.step.Flow.{Flow}
use Rattle.abstract_state.specs.declared.step.Flow.TheVariants.{Live, Dead}
use Rattle.tracked_state.specs.Tracking.{after_tracked}
use Rattle.tracked_state.specs.Tracked.{ContainsTracked, WithinTracked, TrackedSituation, IsTracked, IsTrackedIn}
use Rattle.value_marks.specs.Copies.{LieBelow, Bear, AreMarking, kept}
use Rattle.abstract_state.specs.declared.state.AbsState.{AbsState}
use Rattle.abstract_state.specs.Situation.{IsSituation}
use Rattle.abstract_state.specs.State.{Contains}
use Rattle.semantics.specs.Step.{Program}
use Rattle.verifier.specs.Arises.{Arises, ArisesAt}
use Rattle.verifier.specs.Waiting.{Waiting, MarksBelow, MarksBelowIn, WaitBelow, unboxed, waiting_at, as_tracked}
use Rattle.verifier.specs.declared.waiting.Awaiting.{Awaiting}
use Rattle.value_marks.specs.declared.marks.Marks.{Marks}
use Rattle.value_marks.specs.Marking.{marking_of}
use Rattle.value_marks.proofs.Below.{below_more}
use Rattle.verifier.specs.Walk.{Keeps}

pub within_some : (o : Option TrackedState) (a : TrackedState) (lengths : Lengths) (s : State) → o ≡ Some a → WithinTracked o lengths s → ContainsTracked a lengths s
within_some o a lengths s e (x, is, contains) =
    subst (λ b. ContainsTracked b lengths s) (same_Some x a (sym is ∙ e)) contains

pub waiting-set_same : (states : Waiting) (slot : ℕ) (o : Option Awaiting) → slot < length states → waiting_at (set states slot o) slot ≡ unboxed o
waiting-set_same states slot o h = ap unboxed (get_or-set_same states slot o None h)

pub waiting-set_other : (states : Waiting) (slot other : ℕ) (o : Option Awaiting) → other ≢ slot → waiting_at (set states slot o) other ≡ waiting_at states other
waiting-set_other states slot other o h = ap unboxed (get_or-set_other states slot other o None h)

-- what was read at a slot is what waits there
pub read_waiting : (states : Waiting) (slot : ℕ) (read taken : Option Awaiting) → slot < length states → read ≡ get_or states slot read → taken ≡ read → waiting_at states slot ≡ unboxed taken
read_waiting states slot read taken within is same =
    let there = slice_get_read states (length states) slot read refl within is in
    ap unboxed (get_or_from_slice_get states slot read None there ∙ sym same)

-- ---- a slot's entry is taken, and written anew
pub set_twice : (states : Waiting) (slot : ℕ) (empty : Option Awaiting) (joined : Awaiting) → slot < length states → waiting_at (set (set states slot empty) slot (Some joined)) slot ≡ Some (as_tracked joined)
set_twice states slot empty joined within =
    waiting-set_same (set states slot empty) slot (Some joined) (subst (λ n. slot < n) (sym (length-set states slot empty)) within)

pub keeps_added : (states : Waiting) (slot : ℕ) (read taken empty : Option Awaiting) (joined : Awaiting) → slot < length states → read ≡ get_or states slot read → taken ≡ read → ((lengths : Lengths) (s : State) → WithinTracked (unboxed taken) lengths s → ContainsTracked (as_tracked joined) lengths s) → Keeps states (set (set states slot empty) slot (Some joined))
keeps_added states slot read taken empty joined within is same kept other lengths s waits =
    ⊎_elim
    (λ (here : other ≡ slot).
    let was : WithinTracked (waiting_at states slot) lengths s = subst (λ n. WithinTracked (waiting_at states n) lengths s) here waits in
    let known : WithinTracked (unboxed taken) lengths s = subst (λ o. WithinTracked o lengths s) (read_waiting states slot read taken within is same) was in
    subst (λ n. WithinTracked (waiting_at (set (set states slot empty) slot (Some joined)) n) lengths s) (sym here)
    ((as_tracked joined), set_twice states slot empty joined within, kept lengths s known))
    (λ (apart : other ≡ slot → ⊥).
    let stays : waiting_at (set (set states slot empty) slot (Some joined)) other ≡ waiting_at states other =
    waiting-set_other (set states slot empty) slot other (Some joined) apart ∙ waiting-set_other states slot other empty apart in
    subst (λ o. WithinTracked o lengths s) (sym stays) waits)
    (cases_eq other slot)

pub added_there : (states : Waiting) (slot : ℕ) (empty : Option Awaiting) (joined : Awaiting) (lengths : Lengths) (s : State) → slot < length states → ContainsTracked (as_tracked joined) lengths s → WithinTracked (waiting_at (set (set states slot empty) slot (Some joined)) slot) lengths s
added_there states slot empty joined lengths s within contains = ((as_tracked joined), set_twice states slot empty joined within, contains)

-- what was taken is the box that was found
pub waited : (states : Waiting) (slot : ℕ) (read taken : Option Awaiting) (boxed : Awaiting) (lengths : Lengths) (s : State) → slot < length states → read ≡ get_or states slot read → taken ≡ read → taken ≡ Some boxed → WithinTracked (waiting_at states slot) lengths s → ContainsTracked (as_tracked boxed) lengths s
waited states slot read taken boxed lengths s within is same found waits =
    within_some (waiting_at states slot) (as_tracked boxed) lengths s (read_waiting states slot read taken within is same ∙ ap unboxed found) waits

-- ---- the marks of what waits
pub read_below : (profile : Profile) (states : Waiting) (slot : ℕ) (read taken : Option Awaiting) → slot < length states → read ≡ get_or states slot read → taken ≡ read → WaitBelow profile states → MarksBelowIn profile slot (unboxed taken)
read_below profile states slot read taken within is same below =
    subst (MarksBelowIn profile slot) (read_waiting states slot read taken within is same) (below slot)

pub below_added : (profile : Profile) (states : Waiting) (slot : ℕ) (empty : Option Awaiting) (joined : Awaiting) → slot < length states → WaitBelow profile states → MarksBelow profile slot (as_tracked joined) → WaitBelow profile (set (set states slot empty) slot (Some joined))
below_added profile states slot empty joined within below marks other =
    ⊎_elim
    (λ (here : other ≡ slot).
    subst (λ n. MarksBelowIn profile n (waiting_at (set (set states slot empty) slot (Some joined)) n)) (sym here)
    (subst (MarksBelowIn profile slot) (sym (set_twice states slot empty joined within)) marks))
    (λ (apart : other ≡ slot → ⊥).
    let stays : waiting_at (set (set states slot empty) slot (Some joined)) other ≡ waiting_at states other =
    waiting-set_other (set states slot empty) slot other (Some joined) apart ∙ waiting-set_other states slot other empty apart in
    subst (MarksBelowIn profile other) (sym stays) (below other))
    (cases_eq other slot)

pub below_taken : (profile : Profile) (states : Waiting) (slot : ℕ) (empty : Option Awaiting) → slot < length states → empty ≡ None → WaitBelow profile states → WaitBelow profile (set states slot empty)
below_taken profile states slot empty within none below other =
    ⊎_elim
    (λ (here : other ≡ slot).
    subst (λ n. MarksBelowIn profile n (waiting_at (set states slot empty) n)) (sym here)
    (subst (MarksBelowIn profile slot) (sym (waiting-set_same states slot empty within ∙ ap unboxed none)) tt))
    (λ (apart : other ≡ slot → ⊥).
    subst (MarksBelowIn profile other) (sym (waiting-set_other states slot other empty apart)) (below other))
    (cases_eq other slot)

-- ---- marks whose origins lie below a slot lie below each one further on
marks_later : (slot k : ℕ) (o : Option Marks) → slot ≤ k → LieBelow slot o → LieBelow k o
marks_later slot k None less below = tt
marks_later slot k (Some marks) less below = below_more slot k (marking_of marks) less below

pub state_later : (profile : Profile) (slot k : ℕ) (a : TrackedState) → slot ≤ k → MarksBelow profile slot a → MarksBelow profile k a
state_later profile slot k a less below = record {
  origins = marks_later slot k (kept a.copies) less below.origins;
  unfollowed = below.unfollowed;
}

pub below_later : (profile : Profile) (slot k : ℕ) (o : Option TrackedState) → slot ≤ k → MarksBelowIn profile slot o → MarksBelowIn profile k o
below_later profile slot k None less below = tt
below_later profile slot k (Some a) less below = state_later profile slot k a less below

pub below_some : (profile : Profile) (slot : ℕ) (o : Option TrackedState) (a : TrackedState) → o ≡ Some a → MarksBelowIn profile slot o → MarksBelow profile slot a
below_some profile slot None a is below = absurd (cc (is))
below_some profile slot (Some b) a is below = subst (MarksBelow profile slot) (same_Some b a is) below

-- an edge of a comparison has the marks that were there before it
pub edge_below : (profile : Profile) (slot k : ℕ) (a : TrackedState) (edge : Option TrackedState) → slot ≤ k → MarksBelow profile slot a → IfSome edge (λ b. kept b.copies ≡ kept a.copies) → MarksBelowIn profile k edge
edge_below profile slot k a None less below same = tt
edge_below profile slot k a (Some b) less below same = record {
  origins = subst (LieBelow k) (sym same) (marks_later slot k (kept a.copies) less below.origins);
  unfollowed = λ few. same ∙ below.unfollowed few;
}

-- so has what is known after a step, if a run can come there
pub stepped_below : (profile : Profile) (slot : ℕ) (flow : Flow) (a : TrackedState) → MarksBelow profile slot a → MarksBelowIn profile slot (after_tracked flow a)
stepped_below profile slot Live a below = below
stepped_below profile slot Dead a below = tt

-- ---- a copy of a state
pub copy_contains : (a b : TrackedState) (lengths : Lengths) (s : State) → b.state ≡ a.state → kept b.copies ≡ kept a.copies → ContainsTracked a lengths s → ContainsTracked b lengths s
copy_contains a b lengths s same marks contains = record {
  state = subst (λ (x : AbsState). Contains x lengths s) (sym same) contains.state;
  copies = subst (λ (o : Option Marks). Bear o s) (sym marks) contains.copies;
}

pub copy_is : (a b : TrackedState) (t : TrackedSituation) → b.state ≡ a.state → kept b.copies ≡ kept a.copies → IsTracked a t → IsTracked b t
copy_is a b t same marks is = record {
  state = subst (λ (x : AbsState). IsSituation x t.situation) (sym same) is.state;
  copies = subst (λ (o : Option Marks). AreMarking o t.marking) (sym marks) is.copies;
}

pub copy_below : (profile : Profile) (slot : ℕ) (a b : TrackedState) → kept b.copies ≡ kept a.copies → MarksBelow profile slot a → MarksBelow profile slot b
copy_below profile slot a b marks below = record {
  origins = subst (LieBelow slot) (sym marks) below.origins;
  unfollowed = λ few. marks ∙ below.unfollowed few;
}

pub copy_tracked : (a b : TrackedState) (o : Option TrackedSituation) → b.state ≡ a.state → kept b.copies ≡ kept a.copies → IsTrackedIn (Some a) o → IsTrackedIn (Some b) o
copy_tracked a b None same marks is = absurd (cc (is))
copy_tracked a b (Some t) same marks (x, at, is) =
    (b, refl, copy_is a b t same marks (subst (λ (y : TrackedState). IsTracked y t) (sym (same_Some a x at)) is))

pub copy_arises : (profile : Profile) (program : Program) (slot : ℕ) (a b : TrackedState) → b.state ≡ a.state → ArisesAt profile program slot (Some a) → ArisesAt profile program slot (Some b)
copy_arises profile program slot a b same arises x is =
    subst (λ (y : TrackedState). Arises profile program slot y.state) (same_Some b x is)
    (subst (λ (y : AbsState). Arises profile program slot y) (sym same) (arises a refl))
