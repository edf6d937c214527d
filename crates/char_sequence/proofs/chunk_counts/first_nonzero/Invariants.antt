use Rattle.std.proofs.Common.{◌≡◌, slice_range, sum}
use Rattle.char_sequence.proofs.chunk_counts.first_nonzero.Given as goal

abbrev pub invariant-loop-index : goal.invariant-loop-index
invariant-loop-index l = sum (slice_range l.numbers l.start l.index) ≡ 0
