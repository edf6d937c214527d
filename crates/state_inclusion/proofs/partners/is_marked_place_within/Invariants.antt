use Rattle.std.proofs.Common.{◌<◌, ℕ, Some}
use Rattle.tracked_state.specs.Tracked.{tracked_of}
use Rattle.state_inclusion.specs.Partners.{holder_at, mark_at, IsPairWithin}
use Rattle.state_inclusion.proofs.partners.is_marked_place_within.Given as goal

abbrev pub invariant-loop-j : goal.invariant-loop-j
invariant-loop-j l = (k : ℕ) → k < l.j → IsPairWithin (holder_at (tracked_of l.first) k) (holder_at (tracked_of l.first) l.place) (mark_at (tracked_of l.second) k) (Some l.mark)
