-- What a delivery makes of a replica.
use Rattle.std.proofs.Common.{◌≡◌, ℕ, zero, suc, ◌<◌, List, [], ◌∷◌, ◌++◌, Option, Some, None, Result, Ok, Err, IfOk, IsSome, MatchOption, refl, sym, ap, ◌∙◌, subst, arith, length, Contains, append_assoc}
use Rattle.std.specs.List.{slice_get}
use Rattle.change_ops.specs.declared.id.OpId.{OpId}
use Rattle.change_ops.specs.declared.size.Size.{Size}
use Rattle.change_history.specs.declared.refusal.SubmitError.{SubmitError}
use Rattle.mark_anchors.proofs.Lists.{contains_from}
use Rattle.replica.specs.declared.replica.Delivered.TheVariants.{Covered}
use Rattle.replica.specs.Messages.{Message, SameMessages}
use Rattle.replica.specs.Readiness.{HasCauses}
use Rattle.replica.specs.Buffers.{Buffered, IsBuffered, IsOverlappedBy, all_of, WaitsFor, Joins, Settles}
use Rattle.replica.specs.Replicas.{State, state_of, IsState, taken, Takes, Delivers}
use Rattle.replica.proofs.Causality.{nothing_in}
use Rattle.replica.proofs.Missing.{waits_not}
use Rattle.replica.proofs.Showing.{waits_so}

-- ---- no message
pub new_state : (buffer : Buffered) (size : Size) → buffer ≡ record { size = size; accepted = []; held = [] } → IsBuffered buffer → IsState (state_of buffer None)
new_state buffer size new kept = record {
  buffered = kept;
  settled = λ m has. absurd (nothing_in m (subst (λ (ms : List Message). Contains ms m) (ap (λ (b : Buffered). b.held) new) has));
}

-- ---- a message is covered
pub covered : (old : State) (buffer : Buffered) (stopped : Option SubmitError) (message : Message) → state_of buffer stopped ≡ old → IsOverlappedBy (all_of buffer) message → Delivers old message old Covered
covered old buffer stopped message view h = (refl, (h.0, subst (λ (s : State). Contains (taken s) h.0) view h.1, h.2))

-- ---- a message is taken in
all_joined : (buffer held : Buffered) (message : Message) → Joins buffer message held → all_of held ≡ all_of buffer ++ message ∷ []
all_joined buffer held message step =
    ap (λ (ms : List Message). ms ++ held.held) step.accepted ∙ ap (λ (ms : List Message). buffer.accepted ++ ms) step.held
    ∙ sym (append_assoc buffer.accepted buffer.held (message ∷ []))

takes_in : (buffer held new : Buffered) (before stopped : Option SubmitError) (message : Message) → Joins buffer message held → Settles held new stopped → Takes (state_of buffer before) message (state_of new stopped)
takes_in buffer held new before stopped message joins settles = record {
  size = settles.size ∙ joins.size;
  more = settles.more;
  accepted = settles.accepted ∙ ap (λ (ms : List Message). ms ++ settles.more) joins.accepted;
  taken = subst (λ (ms : List Message). SameMessages (all_of new) ms) (all_joined buffer held message joins) settles.same;
}

pub takes : (old : State) (buffer held new : Buffered) (before stopped : Option SubmitError) (message : Message) → state_of buffer before ≡ old → Joins buffer message held → Settles held new stopped → Takes old message (state_of new stopped)
takes old buffer held new before stopped message view joins settles = subst (λ (s : State). Takes s message (state_of new stopped)) view (takes_in buffer held new before stopped message joins settles)

pub settled_state : (old new : Buffered) (stopped : Option SubmitError) → IsBuffered new → Settles old new stopped → IsState (state_of new stopped)
settled_state old new stopped kept settles = record { buffered = kept; settled = settles.settled }

-- ---- a held message waits for an operation that is named
at_index : (held : List Message) (index : ℕ) → index < length held → (m : Message) × (slice_get held index ≡ Some m)
at_index [] index low = absurd (omega arith)
at_index (m ∷ held) zero low = (m, refl)
at_index (m ∷ held) (suc index) low = at_index held index (omega arith)

pub waits_named : {E : Type 0} (state : State) (index : ℕ) (result : Result (Option OpId) E) → IsState state → index < length state.held
    → IfOk result (λ waited. (message : Message) → slice_get state.held index ≡ Some message → MatchOption waited (HasCauses state.accepted message) (WaitsFor state.accepted message))
    → IfOk result (λ waited. state.stopped ≡ None → IsSome waited)
waits_named state index (Ok None) is low says = λ none.
    let at = at_index state.held index low in
    let waits = waits_so state is none at.0 (contains_from state.held index at.0 at.1) in
    absurd (waits_not state.accepted at.0 waits.0 waits.1 (says at.0 at.1))
waits_named state index (Ok (Some id)) is low says = λ none. refl
waits_named state index (Err error) is low says = tt
