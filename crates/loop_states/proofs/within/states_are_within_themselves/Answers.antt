use Rattle.state_inclusion.specs.Partners.{marks_in}
use Rattle.state_inclusion.proofs.Situations.{situation_self}
use Rattle.state_inclusion.proofs.Pairs.{marks_self}
use Rattle.loop_states.proofs.Bearing.{lengths_self}
use Rattle.loop_states.proofs.within.states_are_within_themselves.Goals as goal

pub returns : goal.returns
returns c = λ a. record {
  states = record { situation = situation_self a.situation; marks = marks_self a };
  lengths = lengths_self (marks_in a);
}
