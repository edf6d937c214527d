use Rattle.inlined_calls.proofs.Laws.{means_the_same}
use Rattle.call_inlining.proofs.check.is_inlined.Goals as goal

pub returns-clause-same : goal.returns-clause-same
returns-clause-same c = λ is. means_the_same _ _ _ (c.corresponds.ensures is)
