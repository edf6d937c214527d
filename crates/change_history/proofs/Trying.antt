-- The operations of a change are tried one after the other.
use Rattle.std.proofs.Common.{◌≡◌, ℕ, ◌+◌, ◌<◌, ◌↔◌, Bool, true, false, IsTrue, List, [], ◌∷◌, ◌++◌, Some, Result, Ok, Err, IfOk, sym, ap, ◌∙◌, subst, arith, append_assoc, length, take}
use Rattle.std.specs.List.{slice_get, filter}
use Rattle.std.proofs.lemmas.Bool.{false≢true}
use Rattle.std.proofs.lemmas.List.{append-nil}
use Rattle.change_ops.specs.Lines.{ops_of, ops_of_lines}
use Rattle.change_ops.specs.declared.line.Line.{Line}
use Rattle.change_ops.specs.declared.operation.Op.{Op}
use Rattle.change_ops.specs.Operations.{is_edit}
use Rattle.change_ops.specs.declared.size.Size.{Size}
use Rattle.change_ops.specs.declared.size.Size.TheVariants.{Large}
use Rattle.char_sequence.specs.Acceptance.{Accepts, IsFull, HasNoRoom}
use Rattle.char_sequence.specs.Held.{Sequence, Holds}
use Rattle.char_sequence.specs.Order.{Shows}
use Rattle.char_sequence.proofs.Steps.{accepts_other}
use Rattle.change_history.proofs.Edits.{accepts_part, no_room_edits, full_by_edits}
use Rattle.change_history.proofs.Keeping.{filter_push_yes, filter_push_no, shows_mark}
use Rattle.change_history.proofs.Sizes.{accepts_large}
use Rattle.change_history.specs.declared.parts.Parts.{Parts}
use Rattle.change_history.specs.declared.trial.Trial.{Trial}
use Rattle.change_history.specs.declared.refusal.ApplyError.{ApplyError}
use Rattle.change_history.specs.declared.refusal.ApplyError.TheVariants as apply
use Rattle.change_history.specs.declared.refusal.Refusal.{Refusal}
use Rattle.change_history.specs.Accepted.{MayFollow, MayNotFollow, AllFollow, IsFirstRefused}
use Rattle.change_history.specs.Kept.{Keeps, IsNotAccepted, error_at}
use Rattle.change_history.specs.Tally.{AreOf, IsTally, IsShort}
use Rattle.change_history.specs.Trial.{IsSequenceOf, sequence_of, IsTried, StretchTried}
use Rattle.change_history.proofs.Chronicle.{take_push, follow_none, follow_more, begin_of, none_before, begin_next, end_of}

module _ {size : Size} where
  -- ---- one operation more
  pub tried_one : (ops added : List Op) (from node : ℕ) (parts : Parts) (old new : Trial) (op : Op) → IsTried size ops added from node parts old → slice_get added from ≡ Some op → MayFollow size (ops ++ take from added) op → IsTally ops (take from added ++ op ∷ []) node new.tally → IsSequenceOf ((ops ++ take from added) ++ op ∷ []) (sequence_of new parts) → IsTried size ops added (from + 1) node parts new
  tried_one ops added from node parts old new op a here m tally sequence = record {
    kept = a.kept;
    own = a.own;
    follow = follow_more ops added from op here a.follow m;
    counted = subst (λ (ts : List Op). IsTally ops ts node new.tally) (sym (take_push added from op here)) tally;
    sequence = subst (λ (xs : List Op). IsSequenceOf xs (sequence_of new parts)) (append_assoc ops (take from added) (op ∷ []) ∙ ap (λ (ts : List Op). ops ++ ts) (sym (take_push added from op here))) sequence;
  }

  pub refused_try : (ops added : List Op) (from node : ℕ) (parts : Parts) (old new : Trial) (op : Op) (refusal : Refusal) → IsTried size ops added from node parts old → slice_get added from ≡ Some op → MayNotFollow size (ops ++ take from added) op refusal → StretchTried size ops added from 1 node parts new (Err (apply.Refused refusal))
  refused_try ops added from node parts old new op refusal a here not =
      let first : from + 0 ≡ from = omega arith in
      (0, omega arith, subst (λ (n : ℕ). IsFirstRefused size ops added n refusal) (sym first) (record { operation = op; here = here; refused = not; before = a.follow }))

  -- ---- the next one of a run
  pub try_begun : (ops added : List Op) (from node : ℕ) (parts : Parts) (trial : Trial) → IsTried size ops added from node parts trial → IsTried size ops added (from + 0) node parts trial
  try_begun ops added from node parts trial a = let same : from ≡ from + 0 = omega arith in subst (λ (n : ℕ). IsTried size ops added n node parts trial) same a

  pub try_more : (ops added : List Op) (from index node : ℕ) (parts : Parts) (trial : Trial) → IsTried size ops added (from + index + 1) node parts trial → IsTried size ops added (from + (index + 1)) node parts trial
  try_more ops added from index node parts trial a = let same : from + index + 1 ≡ from + (index + 1) = omega arith in subst (λ (n : ℕ). IsTried size ops added n node parts trial) same a

module _ (size : Size) where
  pub try_refused : (ops added : List Op) (from index count node : ℕ) (parts : Parts) (trial : Trial) (error : ApplyError) → index < count → StretchTried size ops added (from + index) 1 node parts trial (Err error) → StretchTried size ops added from count node parts trial (Err error)
  try_refused ops added from index count node parts trial (apply.Refused refusal) below h =
      let low : h.0 < 1 = h.1 in
      let same_index : (from + index) + h.0 ≡ from + index = omega arith in
      (index, below, subst (λ (n : ℕ). IsFirstRefused size ops added n refusal) same_index h.2)
  try_refused ops added from index count node parts trial apply.OutOfMemory below h = tt

-- ---- the lines of a change
module _ {size : Size} where
  pub trial_begun : (ops : List Op) (lines : List Line) (node : ℕ) (parts : Parts) (trial : Trial) → Keeps ops parts → AreOf node (ops_of_lines lines) → IsTally ops [] node trial.tally → sequence_of trial parts ≡ parts.sequence → IsTried size ops (ops_of_lines lines) (begin_of lines 0) node parts trial
  trial_begun ops lines node parts trial k own tally same =
      let all = ops_of_lines lines in
      subst (λ (n : ℕ). IsTried size ops all n node parts trial) (sym (none_before lines))
      (record { kept = k; own = own; follow = follow_none ops all; counted = tally; sequence = subst (λ (xs : List Op). IsSequenceOf xs (sequence_of trial parts)) (sym (append-nil ops)) (subst (λ s. IsSequenceOf ops s) (sym same) (record { shows = k.shows; held = k.held })) })

  pub line_tried : (ops : List Op) (lines : List Line) (index node : ℕ) (line : Line) (parts : Parts) (trial : Trial) → slice_get lines index ≡ Some line → IsTried size ops (ops_of_lines lines) (begin_of lines index + length (ops_of line)) node parts trial → IsTried size ops (ops_of_lines lines) (begin_of lines (index + 1)) node parts trial
  line_tried ops lines index node line parts trial g h =
      subst (λ (n : ℕ). IsTried size ops (ops_of_lines lines) n node parts trial) (sym (begin_next lines index line g)) h

module _ (size : Size) where
  pub refused_try_at : (ops : List Op) (lines : List Line) (index node : ℕ) (line : Line) (parts : Parts) (new : Trial) (error : ApplyError) → slice_get lines index ≡ Some line
      → StretchTried size ops (ops_of_lines lines) (begin_of lines index) (length (ops_of line)) node parts new (Err error) → IsNotAccepted size ops lines (error_at index error)
  refused_try_at ops lines index node line parts new (apply.Refused refusal) here h = record { line = line; here = here; offset = h.0; within = h.1; first = h.2 }
  refused_try_at ops lines index node line parts new apply.OutOfMemory here h = tt

module _ {size : Size} where
  pub tried_all : (ops : List Op) (lines : List Line) (count node : ℕ) (parts : Parts) (trial : Trial) → count ≡ length lines → IsTried size ops (ops_of_lines lines) (begin_of lines count) node parts trial → AllFollow size ops (ops_of_lines lines) (length (ops_of_lines lines))
  tried_all ops lines count node parts trial whole a = subst (λ (n : ℕ). AllFollow size ops (ops_of_lines lines) n) (end_of lines count whole) a.follow

-- ---- the sequence behind one operation more
pub behind_edit : {A E : Type 0} (r : Result A E) (ops : List Op) (op : Op) (new : Sequence) → is_edit op ≡ true → IfOk r (λ _. Shows new.elements (ops ++ op ∷ [])) → IfOk r (λ _. Holds new (filter is_edit ops ++ op ∷ [])) → IfOk r (λ _. IsSequenceOf (ops ++ op ∷ []) new)
behind_edit (Ok a) ops op new edit shows held = record {
  shows = shows;
  held = subst (λ (xs : List Op). Holds new xs) (sym (filter_push_yes is_edit ops op edit)) held;
}
behind_edit (Err e) ops op new edit shows held = tt

module _ {size : Size} where
  pub behind_mark : (ops : List Op) (op : Op) (sequence : Sequence) → is_edit op ≡ false → IsSequenceOf ops sequence → Accepts size ops op → IsSequenceOf (ops ++ op ∷ []) sequence
  behind_mark ops op sequence fails is a = record {
    shows = shows_mark ops op sequence.elements fails is.shows a;
    held = subst (λ (xs : List Op). Holds sequence xs) (sym (filter_push_no is_edit ops op fails)) is.held;
  }

  pub accepts_behind : (ops others : List Op) (op : Op) (sequence : Sequence) → IsSequenceOf ops sequence → Accepts size ops op → Holds sequence others → Accepts Large others op
  accepts_behind ops others op sequence is a held =
      accepts_other sequence (filter is_edit ops) others op is.held held (accepts_part ops sequence.elements is.shows op (accepts_large a))

-- an operation that the sequence has room for
pub short_of : (size : Size) (ops : List Op) (op : Op) (sequence read : Sequence) (b : Bool) → IsSequenceOf ops sequence → read ≡ sequence → ((edits : List Op) → Holds read edits → IsTrue b ↔ HasNoRoom edits op) → b ≡ false → IsShort size ops op
short_of size ops op sequence read b is same told fits = λ few none.
    false≢true (sym fits ∙ (told (filter is_edit ops) (subst (λ s. Holds s (filter is_edit ops)) (sym same) is.held)).1 (no_room_edits ops op none))

-- and one that it hasn't
pub full_of : (size : Size) (ops : List Op) (op : Op) (sequence read : Sequence) (b : Bool) → IsSequenceOf ops sequence → read ≡ sequence → ((edits : List Op) → Holds read edits → IsTrue b ↔ HasNoRoom edits op) → b ≡ true → IsFull size ops op
full_of size ops op sequence read b is same told lacks =
    full_by_edits size ops sequence.elements is.shows op ((told (filter is_edit ops) (subst (λ s. Holds s (filter is_edit ops)) (sym same) is.held)).0 lacks)
