use Rattle.loop_labels.proofs.Counting.{counting_inductive}
use Rattle.loop_labels.proofs.some_loops_have_labels.Goals as goal

pub returns : goal.returns
returns c = counting_inductive
