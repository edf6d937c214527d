use Rattle.std.proofs.Common.{◌<◌, ℕ}
use Rattle.tracked_state.specs.Tracked.{tracked_of}
use Rattle.state_inclusion.specs.Partners.{holder_at, mark_at, IsPairWithin}
use Rattle.state_inclusion.proofs.partners.are_marks_within.Given as goal

abbrev pub invariant-loop-i : goal.invariant-loop-i
invariant-loop-i l = (i j : ℕ) → i < l.i → j < i → IsPairWithin (holder_at (tracked_of l.first) j) (holder_at (tracked_of l.first) i) (mark_at (tracked_of l.second) j) (mark_at (tracked_of l.second) i)
