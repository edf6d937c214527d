use Rattle.std.proofs.Common.{◌≡◌, ◌<◌, ℕ, None, length, get_or}
use Rattle.std.specs.Option.{option_copied}
use Rattle.change_ops.specs.declared.keys.TheConstants.{KEYS}
use Rattle.mark_anchors.proofs.Decisions.{IsRowAt, IsRowTyped}
use Rattle.mark_anchors.proofs.resolved.ResolvedMarks.decided_at.Given as goal

abbrev pub invariant-loop-row : goal.invariant-loop-row
invariant-loop-row l = record {
  sized : length l.values ≡ KEYS;
  there : (row : ℕ) → row < l.row → IsRowAt l.self-inside.sequence.now.elements l.self-inside.operations.now l.place row (option_copied (get_or l.values row None));
  typed : (row : ℕ) → row < l.row → IsRowTyped row (option_copied (get_or l.values row None));
}
