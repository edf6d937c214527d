use Rattle.std.proofs.Common.{◌≡◌, ◌-◌, ◌<◌, ◌≤◌, ℕ, drop}
use Rattle.span_flatten.specs.Version.{spans_of}
use Rattle.feeds.specs.Kept.{AlikeAt}
use Rattle.feeds.proofs.stretch.alike_front.Given as goal

abbrev pub invariant-loop-front : goal.invariant-loop-front
invariant-loop-front l = record {
  few : l.front ≤ l.most;
  one : l.one ≡ drop l.front (spans_of l.older);
  other : l.other ≡ drop l.front (spans_of l.newer);
  alike : (i : ℕ) → i < l.front → AlikeAt l.older i l.newer i;
}

abbrev pub decreases-loop-front : goal.decreases-loop-front
decreases-loop-front l = l.most - l.front
