use Rattle.std.proofs.Common.{◌≡◌, ℕ, ◌<◌, false, get_or}
use Rattle.mark_places.proofs.block.is_any_between.Given as goal

abbrev pub invariant-loop-i : goal.invariant-loop-i
invariant-loop-i l = l.found ≡ false → (k : ℕ) → k < l.i → get_or l.starts k 0 < l.starts_below → get_or l.ends k 0 < l.ends_from
