use Rattle.inlined_calls.proofs.Laws.{means_the_same}
use Rattle.inlined_calls.proofs.inlined_means_the_same.Goals as goal

pub returns : goal.returns
returns c = means_the_same
