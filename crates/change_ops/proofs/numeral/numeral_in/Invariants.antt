use Rattle.std.proofs.Common.{drop}
use Rattle.change_ops.proofs.Digits.{Kept}
use Rattle.change_ops.proofs.numeral.numeral_in.Given as goal

abbrev pub invariant-loop-byte : goal.invariant-loop-byte
invariant-loop-byte l = Kept l.base l.fn.word (drop l.byte-index l.word) l.value
