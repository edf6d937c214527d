-- What is counted of the operations before a peer's next one, and how far the operations of a change are accepted.
use Rattle.std.specs.Prelude.{◌≡◌, ◌↔◌, ◌≤◌, ◌<◌, ◌+◌, ℕ, List, ◌++◌, length, take, count_by, Contains, Result, Ok, Err}
use Rattle.std.specs.Prelude.{true, Some, slice_get}
use Rattle.std.specs.List.Sorted.{IsStrictlyIncreasing}
use Rattle.change_ops.specs.declared.id.OpId.{OpId}
use Rattle.change_ops.specs.declared.operation.Op.{Op}
use Rattle.change_ops.specs.Operations.{id_of, is_insert, is_mark}
use Rattle.change_ops.specs.Sizes.{most_characters}
use Rattle.change_ops.specs.declared.size.Size.{Size}
use Rattle.char_sequence.specs.Acceptance.{Used, HasNoRoom}
use Rattle.char_sequence.specs.Tree.{Present, IsRemoval}
use Rattle.change_history.specs.declared.parts.Parts.{Parts}
use Rattle.change_history.specs.declared.tally.Tally.{Tally}
use Rattle.change_history.specs.declared.refusal.ApplyError.{ApplyError}
use Rattle.change_history.specs.declared.refusal.ApplyError.TheVariants as apply
use Rattle.change_history.specs.Accepted.{AllFollow, IsFirstRefused}
use Rattle.change_history.specs.Kept.{Keeps, StandAt}

-- the operations are those of a peer
abbrev pub AreOf : ℕ → List Op → Type 0
AreOf node ops = (o : Op) → Contains ops o → (id_of o).node ≡ node

-- what is counted of operations, and of a peer's own that follow them
pub record IsTally (ops own : List Op) (node : ℕ) (tally : Tally) : Type 0 where
  pub of : tally.node ≡ node
  pub alone : AreOf node own
  pub used : (id : OpId) → 1 ≤ id.counter → id.node ≡ node → (id.counter ≤ tally.last) ↔ Used (ops ++ own) id
  pub characters : tally.characters ≡ count_by is_insert (ops ++ own)
  pub marks : tally.marks ≡ count_by is_mark (ops ++ own)
  pub rising : IsStrictlyIncreasing tally.inserted.items
  pub inserted : (x : OpId) → Present own x ↔ (x.node ≡ node) × Contains tally.inserted.items x.counter
  pub removed : (r : OpId) → IsRemoval own r ↔ Contains tally.removed r

-- the visible text has room for the operation, unless that is an insert that is one too many
abbrev pub IsShort : Size → List Op → Op → Type 0
IsShort size ops op =
    (is_insert op ≡ true → count_by is_insert ops < most_characters size) → HasNoRoom ops op → ⊥

-- that holds of each of several, after those before it
abbrev pub AreShort : Size → List Op → List Op → Type 0
AreShort size ops added = (i : ℕ) (op : Op) → slice_get added i ≡ Some op → IsShort size (ops ++ take i added) op

-- the first `count` of a peer's operations are accepted after those applied, and are counted
pub record IsAdmitted (size : Size) (ops added : List Op) (count node : ℕ) (parts : Parts)
    (tally : Tally) : Type 0 where
  pub kept : Keeps ops parts
  pub own : AreOf node added
  pub short : AreShort size ops added
  pub follow : AllFollow size ops added count
  pub counted : IsTally ops (take count added) node tally

-- the operations are the next ones of a peer's, and are accepted, where the tally is of those before them
pub record AreFollowing (size : Size) (ops added : List Op) (from node : ℕ) (tally : Tally)
    (next : List Op) : Type 0 where
  pub counted : IsTally ops (take from added) node tally
  pub own : AreOf node added
  pub stand : StandAt added from next
  pub follow : AllFollow size ops added (from + length next)

-- the operations are the next ones of a peer
abbrev pub AreNext : Size → List Op → Parts → Tally → Type 0
AreNext size next parts tally =
    (ops : List Op)
    × ((added : List Op)
    × ((from : ℕ) × ((node : ℕ) × IsAdmitted size ops added from node parts tally × StandAt added from next)))

-- what the count of `count` of a peer's operations, those from the index `from` on, answers, and leaves
abbrev pub StretchAdmitted : Size → List Op → List Op → ℕ → ℕ → ℕ → Parts → Tally
    → Result (Unit {0}) ApplyError → Type 0
StretchAdmitted size ops added from count node parts new (Ok done) =
    IsAdmitted size ops added (from + count) node parts new
StretchAdmitted size ops added from count node parts new (Err (apply.Refused refusal)) =
    (offset : ℕ) × (offset < count) × IsFirstRefused size ops added (from + offset) refusal
StretchAdmitted size ops added from count node parts new (Err apply.OutOfMemory) = Unit {0}

-- the same of the next ones, whatever stands before and behind them
abbrev pub Admits : Size → List Op → Parts → Tally → Tally → Result (Unit {0}) ApplyError → Type 0
Admits size next parts old new result =
    (ops added : List Op) (from node : ℕ) → IsAdmitted size ops added from node parts old → StandAt added from next
    → StretchAdmitted size ops added from (length next) node parts new result
