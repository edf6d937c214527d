use Rattle.known_ways.proofs.Wholes.{state_trimmed}
use Rattle.known_ways.proofs.whole.is_state_whole.Goals as goal

pub returns : goal.returns
returns c = λ s is. state_trimmed c.args.state.now s c.has_all.ensures.registers c.has_all.ensures.stack is
