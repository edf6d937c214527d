use Rattle.state_inclusion.proofs.Situations.{situation_self}
use Rattle.state_inclusion.proofs.Pairs.{marks_self}
use Rattle.state_inclusion.proofs.inclusion.states_are_within_themselves.Goals as goal

pub returns : goal.returns
returns c = λ a. record { situation = situation_self a.situation; marks = marks_self a }
