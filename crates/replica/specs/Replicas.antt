-- What is seen of a replica, and what it owes.
use Rattle.std.specs.Prelude.{◌≡◌, ◌↔◌, List, [], ◌∷◌, ◌++◌, Option, Contains}
use Rattle.change_ops.specs.declared.size.Size.{Size}
use Rattle.change_history.specs.declared.refusal.SubmitError.{SubmitError}
use Rattle.replica.specs.Messages.{Message, Overlap, SameMessages}
use Rattle.replica.specs.Readiness.{IsReady}
use Rattle.change_ops.specs.declared.id.OpId.{OpId}
use Rattle.replica.specs.Buffers.{Buffered, IsBuffered, IsSettled, WaitsFor}
use Rattle.replica.specs.declared.replica.Delivered.{Delivered}
use Rattle.replica.specs.declared.replica.Delivered.TheVariants.{Taken, Covered}

-- the size, the messages that were accepted, in their order, those that are held, and why a held one whose causes are
-- there wasn't accepted, if there is one
pub record State : Type 0 where
  pub size : Size
  pub accepted : List Message
  pub held : List Message
  pub stopped : Option SubmitError

abbrev pub state_of : Buffered → Option SubmitError → State
state_of buffer stopped =
    record { size = buffer.size; accepted = buffer.accepted; held = buffer.held; stopped = stopped }

abbrev pub buffer_of : State → Buffered
buffer_of state = record { size = state.size; accepted = state.accepted; held = state.held }

-- what the type keeps
pub record IsState (state : State) : Type 0 where
  pub buffered : IsBuffered (buffer_of state)
  pub settled : IsSettled state.size state.accepted state.held state.stopped

-- all messages that were taken in
abbrev pub taken : State → List Message
taken state = state.accepted ++ state.held

-- the message is taken in beside the others, and what was accepted stays so
pub record Takes (old : State) (message : Message) (new : State) : Type 0 where
  pub size : new.size ≡ old.size
  pub more : List Message
  pub accepted : new.accepted ≡ old.accepted ++ more
  pub taken : SameMessages (taken new) (taken old ++ message ∷ [])

-- what a delivery comes to
abbrev pub Delivers : State → Message → State → Delivered → Type 0
Delivers old message new Taken = Takes old message new
Delivers old message new Covered = (new ≡ old) × ((m : Message) × Contains (taken old) m × Overlap m message)

-- just the ready ones of the messages that were taken in are accepted; just the others are held, and each of these
-- waits for an operation that is named
pub record ShowsTheReady (state : State) : Type 0 where
  pub accepted : (message : Message) → Contains state.accepted message ↔ IsReady (taken state) message
  pub held : (message : Message) → Contains state.held message
      ↔ (Contains (taken state) message × (IsReady (taken state) message → ⊥))
  pub waits : (message : Message) → Contains state.held message
      → (id : OpId) × WaitsFor state.accepted message id

-- the messages of a schedule are handed one after the other
abbrev pub Hands : State → List Message → State → Type 0
Hands old [] new = new ≡ old
Hands old (message ∷ schedule) new =
    (next : State) × (delivered : Delivered) × Delivers old message next delivered × Hands next schedule new

-- no message was taken in
pub record IsNew (state : State) : Type 0 where
  pub accepted : state.accepted ≡ []
  pub held : state.held ≡ []

-- the replica was handed the messages of the schedule, and no others
abbrev pub WasHanded : List Message → State → Type 0
WasHanded schedule state = (start : State) × IsNew start × Hands start schedule state
