use Rattle.known_ways.specs.Told.{ways_seen}
use Rattle.need_trails.specs.Trail.{is_unknown_on_some}
use Rattle.need_trails.proofs.Along.{unknown_here, unknown_later, unknown_nowhere}
use Rattle.need_trails.proofs.knowing.is_unknown_on_some.Goals as goal

pub returns-then-not-is_known : goal.returns-then-not-is_known
returns-then-not-is_known c =
    unknown_here c.args.wanted.now c.args.ways.now c.way-item.result c.loop-way.way-index c.is_known.result (is_unknown_on_some c.args.wanted.now (ways_seen c.args.ways.now)) c.loop-way-test.true c.way-item.is c.is_known.ensures c.if-not-is_known.true c.loop-way.invariant

pub loop-way-preserved : goal.loop-way-preserved
loop-way-preserved c =
    unknown_later c.args.wanted.now c.args.ways.now c.way-item.result c.loop-way.way-index c.is_known.result (is_unknown_on_some c.args.wanted.now (ways_seen c.args.ways.now)) c.loop-way-test.true c.way-item.is c.is_known.ensures c.if-not-is_known.false c.loop-way.invariant

pub returns : goal.returns
returns c =
    unknown_nowhere c.args.wanted.now c.args.ways.now c.loop-way.way-index (is_unknown_on_some c.args.wanted.now (ways_seen c.args.ways.now)) c.loop-way-test.false c.loop-way.invariant
