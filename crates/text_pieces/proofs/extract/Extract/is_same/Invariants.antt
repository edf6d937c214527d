use Rattle.std.proofs.Common.{◌≡◌, length}
use Rattle.text_pieces.proofs.extract.Extract.is_same.Given as goal

abbrev pub invariant-loop-part : goal.invariant-loop-part
invariant-loop-part l = l.self ≡ l.other → l.fn.self ≡ l.fn.other

abbrev pub decreases-loop-part : goal.decreases-loop-part
decreases-loop-part l = length l.self
