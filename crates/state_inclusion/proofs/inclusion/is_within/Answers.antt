use Rattle.state_inclusion.proofs.Situations.{situation_on}
use Rattle.state_inclusion.proofs.Pairs.{marks_on}
use Rattle.state_inclusion.proofs.inclusion.is_within.Goals as goal

pub returns-clause-sound : goal.returns-clause-sound
returns-clause-sound c = λ yes lengths s held.
    let within = c.follows.ensures.0 yes in
    record {
      state = situation_on c.args.first.now.state c.args.second.now.state lengths s within.situation held.state;
      copies = marks_on c.args.first.now c.args.second.now lengths s within.marks held;
    }
