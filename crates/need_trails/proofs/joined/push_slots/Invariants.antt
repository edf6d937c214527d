use Rattle.std.proofs.Common.{◌≡◌, ◌++◌, drop, false, string_bytes}
use Rattle.known_ways.specs.Told.{ways_seen}
use Rattle.need_trails.specs.Trail.{slots_text}
use Rattle.need_trails.proofs.joined.push_slots.Given as goal

abbrev pub invariant-loop-way : goal.invariant-loop-way
invariant-loop-way l = record {
  written : string_bytes l.text ++ slots_text l.wanted l.known l.some (ways_seen (drop l.way-index l.ways)) ≡ string_bytes l.fn.text ++ slots_text l.wanted l.known false (ways_seen l.ways);
}
