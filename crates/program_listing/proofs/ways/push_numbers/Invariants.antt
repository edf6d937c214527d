use Rattle.std.proofs.Common.{◌≡◌, ◌++◌, drop, string_bytes}
use Rattle.known_ways.specs.Told.{ways_seen}
use Rattle.program_listing.specs.Listing.{numbers_behind}
use Rattle.program_listing.proofs.ways.push_numbers.Given as goal

abbrev pub invariant-loop-index : goal.invariant-loop-index
invariant-loop-index l =
    string_bytes l.text ++ numbers_behind (drop l.index (ways_seen l.ways)) ≡ string_bytes l.fn.text ++ numbers_behind (ways_seen l.ways)
