use Rattle.known_ways.proofs.Edges.{flows_live, flows_dead}
use Rattle.known_ways.proofs.behind.live.Goals as goal

pub returns-in-Live : goal.returns-in-Live
returns-in-Live c = λ o flows. flows_live o c.args.flow c.args.state.now c.in-Live.is c.is_state_whole.ensures flows

pub returns-in-Dead : goal.returns-in-Dead
returns-in-Dead c = λ o flows. flows_dead o c.args.flow c.args.state.now c.in-Dead.is flows
