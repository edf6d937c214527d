use Rattle.std.proofs.Common.{◌≡◌, drop}
use Rattle.known_ways.specs.Told.{ways_seen}
use Rattle.need_trails.specs.Trail.{is_known_on_some}
use Rattle.need_trails.proofs.knowing.is_known_on_some.Given as goal

abbrev pub invariant-loop-way : goal.invariant-loop-way
invariant-loop-way l = is_known_on_some l.wanted (ways_seen (drop l.way-index l.ways)) ≡ is_known_on_some l.wanted (ways_seen l.ways)
