-- Which of the messages that were sent are ready: the least set in which the causes of each are those of members.
use Rattle.std.specs.Prelude.{◌≡◌, ℕ, List, Some, Contains, map, slice_get, take}
use Rattle.change_ops.specs.declared.operation.Op.{Op}
use Rattle.change_ops.specs.Changes.{Change, operations}
use Rattle.char_sequence.specs.Newest.{IsLastCounter}
use Rattle.change_history.specs.Accepted.{operations_of}
use Rattle.replica.specs.Messages.{Message, IsSound}
use Rattle.replica.specs.Knowing.{AllCausesAreThere}

abbrev pub changes_of : List Message → List Change
changes_of messages = map (λ (message : Message). message.change) messages

-- the operations of all messages
abbrev pub operations_in : List Message → List Op
operations_in messages = operations_of (changes_of messages)

-- the message's causes are these messages, or operations before in its own change: its peer's earlier operations, and
-- all that its operations name
pub record HasCauses (before : List Message) (message : Message) : Type 0 where
  pub earlier : IsLastCounter (operations_in before) message.change.node message.previous
  pub named : AllCausesAreThere (operations_in before) (operations message.change)

-- each message stands behind its causes
abbrev pub IsCausalOrder : List Message → Type 0
IsCausalOrder order =
    (n : ℕ) (message : Message) → slice_get order n ≡ Some message → IsSound message × HasCauses (take n order) message

-- a causal order of some of the messages that were sent leads to the message: so the ready ones are the least set that
-- has each message that was sent with all causes in it
pub record IsReady (sent : List Message) (message : Message) : Type 0 where
  pub order : List Message
  pub causal : IsCausalOrder order
  pub among : (m : Message) → Contains order m → Contains sent m
  pub there : Contains order message
