use Rattle.loop_labels.specs.Samples.{jumps_to_itself}
use Rattle.loop_labels.proofs.Ends.{ends_within}
use Rattle.loop_labels.proofs.Endless.{not_endless, jumps_forever, some_span}
use Rattle.loop_labels.proofs.endless_programs_have_no_labels.Goals as goal

pub returns-clause-any : goal.returns-clause-any
returns-clause-any g c = λ profile program bytes span never labels bound inductive.
    not_endless profile program bound bytes span
    (ends_within (g.K.Knowledge.rules profile).contains profile program labels bound inductive) never

pub returns-clause-jump : goal.returns-clause-jump
returns-clause-jump g c = λ profile labels bound inductive.
    let some = some_span profile in
    not_endless profile jumps_to_itself bound some.0 some.1
    (ends_within (g.K.Knowledge.rules profile).contains profile jumps_to_itself labels bound inductive)
    (jumps_forever some.0)
