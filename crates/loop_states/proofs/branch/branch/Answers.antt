use Rattle.std.proofs.Common.{true, false}
use Rattle.tracked_state.specs.Tracked.{marking_in, tracked_of}
use Rattle.loop_states.specs.Across.{edge_across}
use Rattle.loop_states.proofs.Landing.{edge_in_loop, tells_edge}
use Rattle.loop_states.proofs.Edges.{both_are}
use Rattle.loop_states.proofs.branch.branch.Goals as goal

pub returns-clause-rule : goal.returns-clause-rule
returns-clause-rule c =
    let left = c.args.left in
    let right = c.args.right.now in
    let marking = marking_in c.args.state.now in
    let (w, is, one, two) = c.in_ok-edges.ensures.rule in
    let (taken, goes, first) = c.in_ok-taken.ensures.rule w.taken one in
    let (untaken, other, second) = c.in_ok-untaken.ensures.rule w.untaken two in (
      record { taken = edge_across left right marking taken; untaken = edge_across left right marking untaken },
      both_are c.args.width c.args.comparison c.args.left c.args.right.now (tracked_of c.args.state.now) w taken untaken c.sharper_edge.result c.sharper_edge-2.result is c.sharper_edge.ensures c.sharper_edge-2.ensures goes other,
      c.tell_across.ensures.rule taken first,
      c.tell_across-2.ensures.rule untaken second,
    )

pub returns-clause-taken : goal.returns-clause-taken
returns-clause-taken c =
    tells_edge c.args.state.now c.args.width c.args.comparison c.args.left c.args.right.now true c.in_ok-taken.taken _ c.tell_across.ensures.sound
    (c.in_ok-taken.ensures.sound c.args.comparison true c.sharper_edge.ensures
    (edge_in_loop c.args.state.now c.args.width c.args.comparison c.args.left c.args.right.now true c.in_ok-edges.edges.taken c.in_ok-edges.ensures.taken_copies c.in_ok-edges.ensures.taken))

pub returns-clause-untaken : goal.returns-clause-untaken
returns-clause-untaken c =
    tells_edge c.args.state.now c.args.width c.args.comparison c.args.left c.args.right.now false c.in_ok-untaken.untaken _ c.tell_across-2.ensures.sound
    (c.in_ok-untaken.ensures.sound c.args.comparison false c.sharper_edge-2.ensures
    (edge_in_loop c.args.state.now c.args.width c.args.comparison c.args.left c.args.right.now false c.in_ok-edges.edges.untaken c.in_ok-edges.ensures.untaken_copies c.in_ok-edges.ensures.untaken))
