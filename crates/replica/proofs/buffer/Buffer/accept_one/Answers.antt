use Rattle.std.proofs.Common.{◌≤◌, ◌<◌, length, refl, sym, subst, arith}
use Rattle.replica.specs.Buffers.{Buffered, Accepts}
use Rattle.replica.proofs.Waiting.{looked_none, looked_step, looked_all}
use Rattle.replica.proofs.buffer.Buffer.accept_one.Goals as goal

pub loop-index-init : goal.loop-index-init
loop-index-init c = (refl, looked_none c.args.self.now)

pub accept_at-requires : goal.accept_at-requires
accept_at-requires c =
    let all = c.held_count-index-end.ensures in
    let within : c.loop-index.index < length c.args.self.now.held = omega arith in
    subst (λ (b : Buffered). c.loop-index.index < length b.held) (sym c.loop-index.invariant.0) within

pub returns-in-Ok : goal.returns-in-Ok
returns-in-Ok c = (c.loop-index.index, subst (λ (b : Buffered). Accepts b c.loop-index.index c.accept_at.new.self) c.loop-index.invariant.0 c.in-Ok.ensures)

pub loop-index-preserved : goal.loop-index-preserved
loop-index-preserved c = looked_step c.args.self.now c.loop-index.self c.accept_at.new.self c.loop-index.index c.loop-index.stopped c.stopped_by-stopped.result c.in-Err.unready c.loop-index.invariant c.in-Err.ensures c.stopped_by-stopped.ensures

pub returns : goal.returns
returns c =
    let all = c.held_count-index-end.ensures in
    let past : length c.args.self.now.held ≤ c.loop-index.index = omega arith in
    (c.loop-index.invariant.0, looked_all c.args.self.now c.loop-index.index c.loop-index.stopped past c.loop-index.invariant.1)
