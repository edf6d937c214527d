-- Changes as their peers send them: which of them can ever be accepted, and which are of one peer's one stream.
use Rattle.std.specs.Prelude.{◌≡◌, ◌⊎◌, ◌^◌, ℕ, ◌<◌, ◌≤◌, List, [], ◌∷◌, Option, Some, None, Contains}
use Rattle.change_ops.specs.declared.operation.Op.{Op}
use Rattle.change_ops.specs.Operations.{id_of}
use Rattle.change_ops.specs.Changes.{Change, operations}
use Rattle.change_ops.specs.declared.id.OpId.{OpId}
use Rattle.char_sequence.specs.Acceptance.{NamesId}
use Rattle.change_history.specs.Tally.{AreOf}

-- a change, with the counter of its peer's last operation before it, 0 where there is none
pub record Message : Type 0 where
  pub previous : ℕ
  pub change : Change

-- each operation's counter is above the one before it, and above those of the ids that it names
abbrev pub AreRising : ℕ → List Op → Type 0
AreRising previous [] = Unit {0}
AreRising previous (op ∷ ops) =
    (previous < (id_of op).counter) × ((x : OpId) → NamesId op x → x.counter < (id_of op).counter)
    × AreRising (id_of op).counter ops

-- the counter of the last operation, or the one before where there is none
abbrev pub end_of : ℕ → List Op → ℕ
end_of previous [] = previous
end_of previous (op ∷ ops) = end_of (id_of op).counter ops

-- the operations are the peer's, and rise: no history accepts the change there where this does not hold, whatever it
-- accepted before
pub record IsSound (message : Message) : Type 0 where
  pub own : AreOf message.change.node (operations message.change)
  pub first : Op
  pub some : Contains (operations message.change) first
  pub rising : AreRising message.previous (operations message.change)

-- the message's change covers a counter of its peer: one above the previous and not above that of an operation
pub record Covers (message : Message) (counter : ℕ) : Type 0 where
  pub above : message.previous < counter
  pub operation : Op
  pub of : Contains (operations message.change) operation
  pub within : counter ≤ (id_of operation).counter

-- both are of one peer, and cover a counter
abbrev pub Overlap : Message → Message → Type 0
Overlap a b = (a.change.node ≡ b.change.node) × ((counter : ℕ) × Covers a counter × Covers b counter)

-- two different messages of a peer never overlap, as those of a peer that numbers its operations once
abbrev pub AreApart : List Message → Type 0
AreApart messages = (a b : Message) → Contains messages a → Contains messages b → Overlap a b → a ≡ b

-- two lists of messages are one set
pub record SameMessages (first second : List Message) : Type 0 where
  pub forth : (m : Message) → Contains first m → Contains second m
  pub back : (m : Message) → Contains second m → Contains first m

-- what looking at operations answers: the counter of the last one, if they rise; where there is one, its counter is
-- within the limit of ids
abbrev pub Rises : ℕ → List Op → Option ℕ → Type 0
Rises previous ops None = AreRising previous ops → ⊥
Rises previous ops (Some last) =
    AreRising previous ops × (end_of previous ops ≡ last) × ((previous ≡ last) ⊎ (last < 2 ^ 48))

-- what a message's type keeps: it is sound, and this is the counter of its last operation
pub record IsMessage (message : Message) (last : ℕ) : Type 0 where
  pub sound : IsSound message
  pub ended : end_of message.previous (operations message.change) ≡ last
  pub small : last < 2 ^ 48
