use Rattle.std.proofs.Common.{◌≡◌, ◌<◌, ◌≤◌, ℕ, None, length, get_or}
use Rattle.std.specs.Option.{option_copied}
use Rattle.change_ops.specs.declared.keys.TheConstants.{KEYS}
use Rattle.mark_anchors.proofs.values.Values.of.Given as goal

abbrev pub invariant-loop-row : goal.invariant-loop-row
invariant-loop-row l = record {
  sized : length l.values ≡ KEYS;
  done : (row : ℕ) → row < l.row → get_or l.values row None ≡ option_copied (get_or l.held row None);
  rest : (row : ℕ) → l.row ≤ row → get_or l.values row None ≡ None;
}
