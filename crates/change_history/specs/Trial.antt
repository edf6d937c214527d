-- How far the operations of a change are accepted, where the text may have no room for what they show.
use Rattle.std.specs.Prelude.{ℕ, ◌+◌, ◌<◌, List, ◌++◌, if◌then◌else◌, length, take, unwrap_or, Result, Ok, Err}
use Rattle.std.specs.List.{filter}
use Rattle.change_ops.specs.Operations.{is_edit, is_revival, bytes_of}
use Rattle.change_ops.specs.declared.operation.Op.{Op}
use Rattle.change_ops.specs.declared.size.Size.{Size}
use Rattle.char_sequence.specs.Held.{Sequence, Holds}
use Rattle.char_sequence.specs.Order.{Shows}
use Rattle.change_history.specs.declared.parts.Parts.{Parts}
use Rattle.change_history.specs.declared.trial.Trial.{Trial}
use Rattle.change_history.specs.declared.refusal.ApplyError.{ApplyError}
use Rattle.change_history.specs.declared.refusal.ApplyError.TheVariants as apply
use Rattle.change_history.specs.Accepted.{AllFollow, IsFirstRefused}
use Rattle.change_history.specs.Kept.{Keeps, StandAt}
use Rattle.change_history.specs.Tally.{AreOf, IsTally}

-- how many bytes an operation counts where each revival counts so many: else those of an insert's character
abbrev pub growth : ℕ → Op → ℕ
growth revived op = if is_revival op then revived else bytes_of op

-- the sequence is that of all operations, and holds those that are edits
pub record IsSequenceOf (ops : List Op) (sequence : Sequence) : Type 0 where
  pub shows : Shows sequence.elements ops
  pub held : Holds sequence (filter is_edit ops)

-- the sequence that a trial has, which is that of the parts where it has no copy
abbrev pub sequence_of : Trial → Parts → Sequence
sequence_of trial parts = unwrap_or trial.copy parts.sequence

-- the first `count` of a peer's operations are accepted after those applied, and are counted, with the sequence behind
-- them
pub record IsTried (size : Size) (ops added : List Op) (count node : ℕ) (parts : Parts) (trial : Trial) : Type 0 where
  pub kept : Keeps ops parts
  pub own : AreOf node added
  pub follow : AllFollow size ops added count
  pub counted : IsTally ops (take count added) node trial.tally
  pub sequence : IsSequenceOf (ops ++ take count added) (sequence_of trial parts)

-- the operations are the next ones of a peer
abbrev pub CanTry : Size → List Op → Parts → Trial → Type 0
CanTry size next parts trial =
    (ops : List Op)
    × ((added : List Op)
    × ((from : ℕ) × ((node : ℕ) × IsTried size ops added from node parts trial × StandAt added from next)))

-- what the trial of `count` operations, those from the index `from` on, answers, and leaves
abbrev pub StretchTried : Size → List Op → List Op → ℕ → ℕ → ℕ → Parts → Trial → Result (Unit {0}) ApplyError → Type 0
StretchTried size ops added from count node parts new (Ok done) = IsTried size ops added (from + count) node parts new
StretchTried size ops added from count node parts new (Err (apply.Refused refusal)) =
    (offset : ℕ) × (offset < count) × IsFirstRefused size ops added (from + offset) refusal
StretchTried size ops added from count node parts new (Err apply.OutOfMemory) = Unit {0}

-- the same of the next ones, whatever stands before and behind them
abbrev pub Tries : Size → List Op → Parts → Trial → Trial → Result (Unit {0}) ApplyError → Type 0
Tries size next parts old new result =
    (ops added : List Op) (from node : ℕ) → IsTried size ops added from node parts old → StandAt added from next
    → StretchTried size ops added from (length next) node parts new result
