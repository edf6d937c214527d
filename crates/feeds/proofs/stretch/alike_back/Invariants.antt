use Rattle.std.proofs.Common.{◌-◌, ◌<◌, ◌≤◌, ℕ}
use Rattle.feeds.specs.Kept.{AlikeAt}
use Rattle.feeds.proofs.stretch.alike_back.Given as goal

abbrev pub invariant-loop-back : goal.invariant-loop-back
invariant-loop-back l = record { few : l.back ≤ l.most; alike : (i : ℕ) → i < l.back → AlikeAt l.older (l.older_end - 1 - i) l.newer (l.newer_end - 1 - i) }

abbrev pub decreases-loop-back : goal.decreases-loop-back
decreases-loop-back l = l.most - l.back
