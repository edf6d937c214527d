use Rattle.loop_labels.proofs.FirstSet.{first_sound, first_inductive}
use Rattle.loop_labels.proofs.some_rules_are_right.Goals as goal

pub returns-clause-right : goal.returns-clause-right
returns-clause-right c = first_sound

pub returns-clause-labels : goal.returns-clause-labels
returns-clause-labels c = first_inductive
