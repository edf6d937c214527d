use Rattle.known_ways.specs.Told.{ways_seen}
use Rattle.need_trails.specs.Trail.{is_known_on_some}
use Rattle.need_trails.proofs.Along.{known_here, known_later, known_nowhere}
use Rattle.need_trails.proofs.knowing.is_known_on_some.Goals as goal

pub returns-then-is_known : goal.returns-then-is_known
returns-then-is_known c =
    known_here c.args.wanted.now c.args.ways.now c.way-item.result c.loop-way.way-index c.is_known.result (is_known_on_some c.args.wanted.now (ways_seen c.args.ways.now)) c.loop-way-test.true c.way-item.is c.is_known.ensures c.if-is_known.true c.loop-way.invariant

pub loop-way-preserved : goal.loop-way-preserved
loop-way-preserved c =
    known_later c.args.wanted.now c.args.ways.now c.way-item.result c.loop-way.way-index c.is_known.result (is_known_on_some c.args.wanted.now (ways_seen c.args.ways.now)) c.loop-way-test.true c.way-item.is c.is_known.ensures c.if-is_known.false c.loop-way.invariant

pub returns : goal.returns
returns c =
    known_nowhere c.args.wanted.now c.args.ways.now c.loop-way.way-index (is_known_on_some c.args.wanted.now (ways_seen c.args.ways.now)) c.loop-way-test.false c.loop-way.invariant
