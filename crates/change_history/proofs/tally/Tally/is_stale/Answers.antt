use Rattle.change_history.proofs.Counting.{stale_used, not_stale, not_false}
use Rattle.change_history.proofs.tally.Tally.is_stale.Goals as goal

pub returns-then-counter-self-clause-yes : goal.returns-then-counter-self-clause-yes
returns-then-counter-self-clause-yes c = λ ops own node t of le.
    stale_used ops own c.args.op.now node c.args.self.now c.id.result c.counter.result t of c.id.ensures c.counter.ensures.value c.counter.ensures.limits.counted c.if-counter-self.true

pub returns-else-counter-self-clause-no : goal.returns-else-counter-self-clause-no
returns-else-counter-self-clause-no c = λ ops own node t of above.
    not_stale ops own c.args.op.now node c.args.self.now c.id.result c.counter.result t of c.id.ensures c.counter.ensures.value c.counter.ensures.limits.counted c.if-counter-self.false (c.is_above_named.ensures.yes (not_false _ above))
