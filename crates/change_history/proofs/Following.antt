-- A version from the one before it.
use Rattle.std.proofs.Common.{◌≡◌, ◌∙◌, ℕ, List, [], ◌∷◌, ◌++◌, Result, Ok, Err, IfOk, length, sym, ap, subst}
use Rattle.std.proofs.lemmas.Option.{slice_get_within}
use Rattle.change_ops.specs.Changes.{Change, operations}
use Rattle.change_ops.specs.Lines.{ops_of_lines}
use Rattle.change_ops.specs.declared.line.Line.{Line}
use Rattle.change_ops.specs.declared.operation.Op.{Op}
use Rattle.char_sequence.specs.Acceptance.{AcceptsAll}
use Rattle.span_flatten.specs.Version.{Version, IsVersion}
use Rattle.version_windows.specs.Step.{IsStep}
use Rattle.change_history.specs.Accepted.{operations_of, AllFollow}
use Rattle.change_history.specs.Kept.{Keeps, IsDraft}
use Rattle.change_history.specs.Next.{AreNextParts}
use Rattle.change_history.specs.declared.history.Draft.{Draft}
use Rattle.change_history.specs.declared.parts.Parts.{Parts}
use Rattle.change_history.proofs.Chronicle.{operations_of-push}
use Rattle.change_history.proofs.Edits.{removals_by_edits}
use Rattle.change_history.proofs.Keeping.{are_marks}
use Rattle.change_history.proofs.Sizes.{follow_large}
use Rattle.change_ops.specs.declared.size.Size.{Size}
use Rattle.change_ops.specs.declared.size.Size.TheVariants.{Large}

accepts_all : (ops added : List Op) → AllFollow Large ops added (length added) → AcceptsAll Large ops added
accepts_all ops added follow i op here = (follow i op (slice_get_within added i op here) here).accepted

pub is_step : (ops : List Op) (previous : Version) (lines : List Line) (before parts : Parts) → AreNextParts ops previous lines before parts
    → IsStep ops previous before.sequence.elements parts.sequence parts.marks lines
is_step ops previous lines before parts next = record {
  shows_before = next.kept_before.shows;
  version = next.version;
  accepted = accepts_all ops (ops_of_lines lines) next.accepted;
  shows = next.kept.shows;
  removals = removals_by_edits (ops ++ ops_of_lines lines) parts.sequence.removals next.kept.held.removals;
  marks = are_marks (ops ++ ops_of_lines lines) parts.marks next.kept.marks;
}

pub next_kept : {N E : Type 0} (version_of : N → Version) (r : Result N E) (previous : Version) (lines : List Line) (before parts : Parts) (number : ℕ)
    → IfOk r (λ n. (ops : List Op) → IsStep ops previous before.sequence.elements parts.sequence parts.marks lines → IsVersion (ops ++ ops_of_lines lines) number (version_of n))
    → IfOk r (λ n. (ops : List Op) → AreNextParts ops previous lines before parts → IsVersion (ops ++ ops_of_lines lines) number (version_of n))
next_kept version_of (Ok n) previous lines before parts number h = λ ops next. h ops (is_step ops previous lines before parts next)
next_kept version_of (Err e) previous lines before parts number h = tt

module _ {size : Size} where
  -- a draft's lines are those of the change that it is of
  pub lines_drafted : {changes : List Change} {change : Change} (lines : List Line) (draft : Draft) → IsDraft size changes change draft → lines ≡ draft.change.lines → lines ≡ change.lines
  lines_drafted lines draft drafted same = same ∙ ap (λ (c : Change). c.lines) drafted.of

  -- the parts of a draft
  pub are_next : (changes : List Change) (change : Change) (previous : Version) (lines : List Line) (draft : Draft) (parts : Parts) → Keeps (operations_of changes) parts → (number : ℕ) × IsVersion (operations_of changes) number previous → IsDraft size changes change draft → lines ≡ change.lines
      → AreNextParts (operations_of changes) previous lines parts draft.parts
  are_next changes change previous lines draft parts kept version drafted same =
      subst (λ (ls : List Line). AreNextParts (operations_of changes) previous ls parts draft.parts) (sym same) (record {
        kept_before = kept;
        version = version;
        accepted = follow_large (operations_of changes) (operations change) (length (operations change)) drafted.accepted.follow;
        kept = subst (λ (ops : List Op). Keeps ops draft.parts) (operations_of-push changes change) drafted.kept;
      })

pub all_operations : (changes : List Change) (change : Change) (lines : List Line) → lines ≡ change.lines → operations_of changes ++ ops_of_lines lines ≡ operations_of (changes ++ change ∷ [])
all_operations changes change lines same = ap (λ (ls : List Line). operations_of changes ++ ops_of_lines ls) same ∙ sym (operations_of-push changes change)
