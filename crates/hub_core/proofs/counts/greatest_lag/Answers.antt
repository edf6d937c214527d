use Rattle.std.proofs.Common.{◌≡◌, ◌<◌, max, length, get_or, arith}
use Rattle.hub_core.proofs.Lags.{lag_next, lag_done}
use Rattle.hub_core.proofs.Opened.{id_within, id_open}
use Rattle.hub_core.proofs.counts.greatest_lag.Goals as goal

pub offset_bounds-subscribers-id : goal.offset_bounds-subscribers-id
offset_bounds-subscribers-id g c =
    let within : get_or c.args.ids.now c.loop-id.id-index 0 < length c.args.subscribers.now = id_within c.args.subscribers.now c.args.ids.now c.loop-id.id-index c.requires.opened c.loop-id-test.true in
    omega (arith, within)

pub bounds-subscribers-id : goal.bounds-subscribers-id
bounds-subscribers-id g c = id_within c.args.subscribers.now c.args.ids.now c.loop-id.id-index c.requires.opened c.loop-id-test.true

pub lag_of-requires-clause-opened : goal.lag_of-requires-clause-opened
lag_of-requires-clause-opened g c = (id_open c.args.subscribers.now c.args.ids.now c.loop-id.id-index c.index-subscribers-id.result c.requires.opened c.loop-id-test.true c.index-subscribers-id.is).1

pub loop-id-preserved : goal.loop-id-preserved
loop-id-preserved g c =
    let greatest = c.loop-id.greatest in
    let own = c.lag_of.result in
    let next = c.max-greatest.result in
    let top : next ≡ max greatest own = grind (arith, c.max-greatest.ensures) in
    let more = lag_next c.args.latest greatest own next c.loop-id.id-index c.args.subscribers.now c.args.ids.now c.index-subscribers-id.result c.requires.opened c.loop-id-test.true
    c.index-subscribers-id.is c.lag_of.ensures top c.loop-id.invariant.below c.loop-id.invariant.each in
    record { below = more.0; each = more.1 }

pub returns : goal.returns
returns g c = lag_done c.args.latest c.loop-id.greatest c.loop-id.id-index c.args.subscribers.now c.args.ids.now c.requires.opened c.loop-id-test.false c.loop-id.invariant.below c.loop-id.invariant.each
