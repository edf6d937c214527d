use Rattle.std.proofs.Common.{◌≡◌, sum, take}
use Rattle.char_sequence.proofs.chunk_counts.sum_of.Given as goal

abbrev pub invariant-loop-number : goal.invariant-loop-number
invariant-loop-number l = l.total ≡ sum (take l.number-index l.numbers)
