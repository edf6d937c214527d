use Rattle.std.proofs.Common.{true}
use Rattle.loop_states.proofs.Landing.{edge_in_loop}
use Rattle.loop_states.proofs.Edges.{no_run, run_where}
use Rattle.loop_states.proofs.branch.edge_along.Goals as goal

pub returns-in-Never-clause-sound : goal.returns-in-Never-clause-sound
returns-in-Never-clause-sound c = λ comparison taken same goes.
    no_run c.args.state.now c.args.width comparison c.args.left c.args.right.now taken c.args.edge c.args.sharper c.in-Never.is same goes

pub returns-in_ok-edges-in-Where-clause-sound : goal.returns-in_ok-edges-in-Where-clause-sound
returns-in_ok-edges-in-Where-clause-sound c = λ comparison taken same goes.
    run_where c.args.state.now c.args.width comparison c.in-Where.comparison c.args.left c.args.right.now taken c.in_ok-edges-in-Where.edges.taken c.args.sharper c.in-Where.is same
    (edge_in_loop c.args.state.now c.args.width c.in-Where.comparison c.args.left c.args.right.now true c.in_ok-edges-in-Where.edges.taken c.in_ok-edges-in-Where.ensures.taken_copies c.in_ok-edges-in-Where.ensures.taken)
