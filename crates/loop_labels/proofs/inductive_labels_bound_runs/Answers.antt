use Rattle.loop_labels.proofs.Ends.{ends_within}
use Rattle.loop_labels.proofs.inductive_labels_bound_runs.Goals as goal

pub returns : goal.returns
returns g c = λ profile program labels bound inductive.
    ends_within (g.K.Knowledge.rules profile).contains profile program labels bound inductive
