use Rattle.known_ways.proofs.Wholes.{edge_some, edge_none}
use Rattle.known_ways.proofs.behind.state_of.Goals as goal

pub returns-in-Some : goal.returns-in-Some
returns-in-Some c = λ edge known. edge_some c.args.tracked.now c.in-Some.held edge c.in-Some.is c.is_state_whole.ensures known

pub returns-in-None : goal.returns-in-None
returns-in-None c = λ edge known. edge_none c.args.tracked.now edge c.in-None.is known
