use Rattle.std.proofs.Common.{◌≡◌, ◌≤◌, sum, take}
use Rattle.char_sequence.proofs.chunk_counts.chunk_from.Given as goal

abbrev pub invariant-loop-position : goal.invariant-loop-position
invariant-loop-position l = (l.start ≡ sum (take l.position l.lengths)) × (l.start ≤ l.place)
