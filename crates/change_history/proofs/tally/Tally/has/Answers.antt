use Rattle.change_history.proofs.Counting.{has_own, has_none}
use Rattle.change_history.proofs.tally.Tally.has.Goals as goal

pub returns-then-node-self : goal.returns-then-node-self
returns-then-node-self c = λ ops own node t.
    has_own ops own node c.args.self.now c.args.id c.deref.result.now c.counter.result c.node.result c.is_among.result t c.deref.ensures.value c.counter.ensures.value c.node.ensures.value c.if-node-self.true c.is_among.ensures

pub returns-else-node-self : goal.returns-else-node-self
returns-else-node-self c = λ ops own node t. has_none ops own node c.args.self.now c.args.id c.node.result t c.node.ensures.value c.if-node-self.false
