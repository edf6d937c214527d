-- The accepted messages and the held ones, and what their buffer answers.
use Rattle.std.specs.Prelude.{◌≡◌, ◌⊎◌, ◌<◌, ℕ, List, [], ◌∷◌, ◌++◌, Option, Some, None, Contains, slice_get}
use Rattle.std.specs.Prelude.{AllPairs, max, if◌then◌else◌, ◌==◌}
use Rattle.std.specs.List.{remove}
use Rattle.change_ops.specs.declared.id.OpId.{OpId}
use Rattle.change_ops.specs.declared.operation.Op.{Op}
use Rattle.change_ops.specs.declared.size.Size.{Size}
use Rattle.change_ops.specs.Operations.{id_of}
use Rattle.change_ops.specs.Changes.{Change, operations}
use Rattle.change_ops.specs.Spelling.{change_text}
use Rattle.change_history.specs.Accepted.{operations_of, IsRefused}
use Rattle.change_history.specs.Chronicle.{Chronicle}
use Rattle.change_history.specs.declared.refusal.SubmitError.{SubmitError}
use Rattle.change_history.specs.declared.refusal.SubmitError.TheVariants as submit
use Rattle.change_history.specs.declared.refusal.Refusal.TheVariants.{StaleCounter, UnknownRef, DocumentFull, MarksFull}
use Rattle.replica.specs.declared.known.Known.{Known}
use Rattle.replica.specs.declared.known.Blocked.{Blocked}
use Rattle.replica.specs.declared.known.Blocked.TheVariants as blocked
use Rattle.replica.specs.declared.buffer.Unready.{Unready}
use Rattle.replica.specs.declared.buffer.Unready.TheVariants.{Waits, Stopped}
use Rattle.replica.specs.declared.buffer.Ready.{Ready}
use Rattle.replica.specs.declared.buffer.Round.{Round}
use Rattle.replica.specs.declared.buffer.Round.TheVariants.{Accepted, Settled}
use Rattle.replica.specs.Messages.{Message, Overlap, IsSound, SameMessages}
use Rattle.replica.specs.Knowing.{Knows, IsMissingAmong}
use Rattle.replica.specs.Readiness.{changes_of, operations_in, HasCauses, IsCausalOrder}

-- the size, the messages that were accepted, in their order, and those that are held
pub record Buffered : Type 0 where
  pub size : Size
  pub accepted : List Message
  pub held : List Message

-- the greatest counter of a peer's operations, 0 where there is none
unfoldable pub last_counter : ℕ → List Op → ℕ
last_counter node [] = 0
last_counter node (op ∷ ops) =
    if (id_of op).node == node then max (id_of op).counter (last_counter node ops) else last_counter node ops

-- changes that were accepted behind operations, as their messages
unfoldable pub messages_behind : List Op → List Change → List Message
messages_behind ops [] = []
messages_behind ops (change ∷ changes) =
    record { previous = last_counter change.node ops; change = change }
    ∷ messages_behind (ops ++ operations change) changes

abbrev pub buffered : Chronicle → List Message → Buffered
buffered history held =
    record { size = history.size; accepted = messages_behind [] history.changes; held = held }

-- all messages that were taken in
abbrev pub all_of : Buffered → List Message
all_of buffer = buffer.accepted ++ buffer.held

-- the accepted messages stand in a causal order, and a held one overlaps neither these nor another held one
pub record IsBuffered (buffer : Buffered) : Type 0 where
  pub causal : IsCausalOrder buffer.accepted
  pub sound : (message : Message) → Contains buffer.held message → IsSound message
  pub apart : (a message : Message) → Contains buffer.accepted a → Contains buffer.held message → Overlap a message → ⊥
  pub held : AllPairs (λ a b. Overlap a b → ⊥) buffer.held

-- what is known is known of all accepted operations
abbrev pub IsBuffer : Chronicle → Known → Type 0
IsBuffer history known = Knows (operations_of history.changes) known

-- one of the messages overlaps this one
abbrev pub IsOverlappedBy : List Message → Message → Type 0
IsOverlappedBy messages message = (m : Message) × Contains messages m × Overlap m message

-- the message joins the held ones
pub record Joins (old : Buffered) (message : Message) (new : Buffered) : Type 0 where
  pub size : new.size ≡ old.size
  pub accepted : new.accepted ≡ old.accepted
  pub held : new.held ≡ old.held ++ message ∷ []

-- the id of its peer's last operation before the message
abbrev pub earlier_id : Message → OpId
earlier_id message = record { counter = message.previous; node = message.change.node }

-- the id is of an operation that the message names, or that its peer made last before it, and that isn't there: no
-- operation of an accepted message is it, and none before the one that names it in its change
abbrev pub WaitsFor : List Message → Message → OpId → Type 0
WaitsFor accepted message id =
    IsMissingAmong (operations_in accepted) (operations message.change) id
    ⊎ ((0 < message.previous) × (id ≡ earlier_id message)
    × ((o : Op) → Contains (operations_in accepted) o → id_of o ≡ id → ⊥))

-- the causes are there, and this is known of all operations with those of the message
abbrev pub Follows : Buffered → Message → Known → Type 0
Follows buffer message known =
    HasCauses buffer.accepted message × Knows (operations_in buffer.accepted ++ operations message.change) known

abbrev pub IsBlocked : Buffered → Message → Blocked → Type 0
IsBlocked buffer message (blocked.Waits id) = WaitsFor buffer.accepted message id
IsBlocked buffer message blocked.OutOfMemory = Unit {0}

-- the id is the one that blocks a message
abbrev pub Blocks : Blocked → Option OpId → Type 0
Blocks error None = ⊥
Blocks error (Some id) = error ≡ blocked.Waits id

abbrev pub unready_of : Blocked → Unready
unready_of (blocked.Waits id) = Waits id
unready_of blocked.OutOfMemory = Stopped submit.OutOfMemory

-- the history refuses a held message whose causes are there
pub record RefusesOne (size : Size) (accepted held : List Message) (error : SubmitError) : Type 0 where
  pub message : Message
  pub waits : Contains held message
  pub causes : HasCauses accepted message
  pub refused : IsRefused size (changes_of accepted) message.change error

-- why a held message whose causes are there is not accepted: memory ran out, or the history has no room for it; it is
-- never refused for its counters or for what it names
abbrev pub IsStop : Size → List Message → List Message → SubmitError → Type 0
IsStop size accepted held submit.HistoryFull = RefusesOne size accepted held submit.HistoryFull
IsStop size accepted held (submit.Refused index StaleCounter) = ⊥
IsStop size accepted held (submit.Refused index UnknownRef) = ⊥
IsStop size accepted held (submit.Refused index DocumentFull) =
    RefusesOne size accepted held (submit.Refused index DocumentFull)
IsStop size accepted held (submit.Refused index MarksFull) =
    RefusesOne size accepted held (submit.Refused index MarksFull)
IsStop size accepted held submit.OutOfMemory = Unit {0}

-- what accepting the held message at the index takes, and that its causes are there
pub record IsReadyAt (buffer : Buffered) (index : ℕ) (ready : Ready) : Type 0 where
  pub message : Message
  pub at : slice_get buffer.held index ≡ Some message
  pub follows : Follows buffer message ready.known
  pub change : ready.change ≡ message.change
  pub text : ready.text ≡ change_text message.change

-- the held message at the index is accepted
pub record Accepts (old : Buffered) (index : ℕ) (new : Buffered) : Type 0 where
  pub message : Message
  pub at : slice_get old.held index ≡ Some message
  pub causes : HasCauses old.accepted message
  pub size : new.size ≡ old.size
  pub accepted : new.accepted ≡ old.accepted ++ message ∷ []
  pub held : new.held ≡ remove old.held index

-- why the held message at the index is not
abbrev pub IsUnready : Buffered → ℕ → Unready → Type 0
IsUnready buffer index (Waits id) =
    (message : Message) → slice_get buffer.held index ≡ Some message → WaitsFor buffer.accepted message id
IsUnready buffer index (Stopped error) = IsStop buffer.size buffer.accepted buffer.held error

-- why a look at held messages stopped so far, once one more isn't accepted
abbrev pub stopped_after : Option SubmitError → Unready → Option SubmitError
stopped_after before (Waits id) = before
stopped_after before (Stopped error) = Some error

-- each held message waits for an operation that is named, unless one is stopped
abbrev pub IsSettled : Size → List Message → List Message → Option SubmitError → Type 0
IsSettled size accepted held None =
    (message : Message) → Contains held message → (id : OpId) × WaitsFor accepted message id
IsSettled size accepted held (Some error) = IsStop size accepted held error

abbrev pub Rounds : Buffered → Buffered → Round → Type 0
Rounds old new Accepted = (index : ℕ) × Accepts old index new
Rounds old new (Settled stopped) = (new ≡ old) × IsSettled old.size old.accepted old.held stopped

-- held messages are accepted behind the others, until none can be
pub record Settles (old new : Buffered) (stopped : Option SubmitError) : Type 0 where
  pub size : new.size ≡ old.size
  pub more : List Message
  pub accepted : new.accepted ≡ old.accepted ++ more
  pub same : SameMessages (all_of new) (all_of old)
  pub settled : IsSettled new.size new.accepted new.held stopped
