use Rattle.std.proofs.Common.{◌≡◌, length}
use Rattle.assembler.specs.Lines.{lines_left}
use Rattle.assembler.proofs.labels.Labels.is_taken.Given as goal

abbrev pub invariant-loop-self : goal.invariant-loop-self
invariant-loop-self l = l.self.source ≡ l.fn.self.source

abbrev pub decreases-loop-self : goal.decreases-loop-self
decreases-loop-self l = length (lines_left l.self.rest)
