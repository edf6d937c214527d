use Rattle.std.proofs.Common.{◌≡◌, ◌≤◌, ◌*◌, sum, take}
use Rattle.char_sequence.proofs.chunk_counts.block_of.Given as goal

abbrev pub invariant-loop-block : goal.invariant-loop-block
invariant-loop-block l = (l.start ≡ sum (take (l.block * 64) l.lengths)) × (l.start ≤ l.place)
