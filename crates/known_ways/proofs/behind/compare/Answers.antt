use Rattle.tracked_state.specs.Rules.{branched}
use Rattle.tracked_state.specs.Tracked.{tracked_of}
use Rattle.known_ways.proofs.Edges.{behind_edges}
use Rattle.known_ways.proofs.behind.compare.Goals as goal

pub returns-in_Ok-edges : goal.returns-in_Ok-edges
returns-in_Ok-edges c =
    behind_edges (branched c.args.width c.args.comparison c.args.left c.args.right.now (tracked_of c.args.before.now)) (record { next = c.state_of-next.result; jumped = c.state_of-jumped.result }) c.in_Ok-edges.edges
    c.in_Ok-edges.ensures.rule c.state_of-next.ensures c.state_of-jumped.ensures

pub returns-in_Err-edges : goal.returns-in_Err-edges
returns-in_Err-edges c =
    c.stopped.ensures (branched c.args.width c.args.comparison c.args.left c.args.right.now (tracked_of c.args.before.now)) c.in_Err-edges.ensures.rule
