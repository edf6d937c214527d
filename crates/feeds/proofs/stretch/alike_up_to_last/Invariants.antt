use Rattle.std.proofs.Common.{◌≡◌, ◌+◌, ◌-◌, ◌<◌, ◌≤◌, ℕ, drop}
use Rattle.span_flatten.specs.Version.{spans_of}
use Rattle.feeds.specs.Kept.{AlikeAt}
use Rattle.feeds.proofs.stretch.alike_up_to_last.Given as goal

abbrev pub invariant-loop-pair : goal.invariant-loop-pair
invariant-loop-pair l = record {
  few : l.alike ≤ l._pair;
  one : l.one ≡ drop (l.older_from + l._pair) (spans_of l.older);
  other : l.other ≡ drop (l.newer_from + l._pair) (spans_of l.newer);
  alike : (i : ℕ) → i < l.alike → AlikeAt l.older (l.older_from + l._pair - 1 - i) l.newer (l.newer_from + l._pair - 1 - i);
}
