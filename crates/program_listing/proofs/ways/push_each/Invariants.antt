use Rattle.std.proofs.Common.{◌≡◌, ◌++◌, drop, string_bytes}
use Rattle.std.specs.List.{flat_map}
use Rattle.known_ways.specs.Told.{ways_seen}
use Rattle.program_listing.specs.Listing.{way_text}
use Rattle.program_listing.proofs.ways.push_each.Given as goal

abbrev pub invariant-loop-index : goal.invariant-loop-index
invariant-loop-index l =
    string_bytes l.text ++ flat_map (way_text l.profile l.lines) (drop l.index (ways_seen l.ways)) ≡ string_bytes l.fn.text ++ flat_map (way_text l.profile l.lines) (ways_seen l.ways)
