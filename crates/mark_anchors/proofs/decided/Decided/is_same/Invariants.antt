use Rattle.std.proofs.Common.{◌≡◌, ◌<◌, ℕ, None, get_or}
use Rattle.std.specs.Option.{option_copied}
use Rattle.mark_anchors.proofs.decided.Decided.is_same.Given as goal

abbrev pub invariant-loop-row : goal.invariant-loop-row
invariant-loop-row l = (row : ℕ) → row < l.row → option_copied (get_or l.held row None) ≡ option_copied (get_or l.others row None)
