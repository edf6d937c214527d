use Rattle.loop_states.proofs.Landing.{starts_in_loop}
use Rattle.loop_states.proofs.state.entry.Goals as goal

pub returns-clause-contains : goal.returns-clause-contains
returns-clause-contains c = starts_in_loop c.entry.result c.entry.ensures.contains c.entry.ensures.rule
