use Rattle.replica.proofs.Buffering.{nothing_settled, settled_more}
use Rattle.replica.proofs.Waiting.{fewer, settled_here}
use Rattle.replica.proofs.buffer.Buffer.settle.Goals as goal

pub loop-stopped-init : goal.loop-stopped-init
loop-stopped-init c = nothing_settled c.args.self.now

pub loop-stopped-preserved : goal.loop-stopped-preserved
loop-stopped-preserved c = settled_more c.args.self.now c.loop-stopped.self c.accept_one.new.self c.in-Accepted.ensures.0 c.loop-stopped.invariant c.in-Accepted.ensures.1

pub loop-stopped-smaller : goal.loop-stopped-smaller
loop-stopped-smaller c = fewer c.loop-stopped.self c.accept_one.new.self c.in-Accepted.ensures.0 c.in-Accepted.ensures.1

pub returns-in-Settled-clause-settled : goal.returns-in-Settled-clause-settled
returns-in-Settled-clause-settled c = settled_here c.args.self.now c.loop-stopped.self c.accept_one.new.self c.in-Settled.stopped c.loop-stopped.invariant c.in-Settled.ensures
