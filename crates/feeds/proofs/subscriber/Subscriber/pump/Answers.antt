use Rattle.std.proofs.Common.{◌≡◌, ◌+◌, arith, ap}
use Rattle.feeds.specs.Feed.{Subscriber}
use Rattle.feeds.proofs.Feeds.{moved_none, moved_more, steps_fit}
use Rattle.feeds.proofs.subscriber.Subscriber.pump.Goals as goal

pub pumping-init : goal.pumping-init
pumping-init g c = record { fed = c.requires.fed; moved = moved_none _ _ _ _; few = omega arith }

pub overflow_add-pushed : goal.overflow_add-pushed
overflow_add-pushed g c =
    let most = steps_fit _ _ _ _ _ _ _ c.requires.fed c.pumping.invariant.moved in
    omega (arith, most, c.pumping.invariant.few, c.send_next-sent.ensures.few)

pub returns-then-not-on-clause-moved : goal.returns-then-not-on-clause-moved
returns-then-not-on-clause-moved g c = moved_more _ _ _ _ _ _ _ _ c.pumping.invariant.moved c.send_next-sent.ensures.moved

pub pumping-preserved : goal.pumping-preserved
pumping-preserved g c =
    let on = c.send_next-sent.ensures.on c.if-not-on.false in
    let x = c.pumping.invariant.moved in
    let cursor : c.pumping.self.cursor ≡ c.args.self.now.cursor + x.steps = ap (λ (z : Subscriber g.row.S.Denot). z.cursor) x.same in
    record {
      fed = c.send_next-sent.ensures.fed;
      moved = moved_more _ _ _ _ _ _ _ _ x c.send_next-sent.ensures.moved;
      few = omega (arith, c.pumping.invariant.few, c.send_next-sent.ensures.few);
    }
