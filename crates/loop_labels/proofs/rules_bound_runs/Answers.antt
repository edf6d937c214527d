use Rattle.loop_labels.proofs.Ends.{ends_within}
use Rattle.loop_labels.proofs.ByRules.{inductive_by}
use Rattle.loop_labels.proofs.rules_bound_runs.Goals as goal

pub returns-clause-inductive : goal.returns-clause-inductive
returns-clause-inductive g c = λ profile program labels bound by.
    inductive_by profile (g.K.Knowledge.rules profile) (g.K.Knowledge.sound profile) program labels bound by

pub returns-clause-within : goal.returns-clause-within
returns-clause-within g c = λ profile program labels bound by.
    let rules = g.K.Knowledge.rules profile in
    ends_within rules.contains profile program labels bound
    (inductive_by profile rules (g.K.Knowledge.sound profile) program labels bound by)
