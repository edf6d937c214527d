use Rattle.std.proofs.Common.{◌++◌, string_bytes}
use Rattle.std.specs.List.{flat_map}
use Rattle.known_ways.specs.Told.{way_seen, ways_seen}
use Rattle.program_listing.specs.Listing.{way_text}
use Rattle.program_listing.proofs.Texts.{told_next}
use Rattle.program_listing.proofs.ways.push_each.Goals as goal

pub loop-index-preserved : goal.loop-index-preserved
loop-index-preserved c =
    told_next way_seen (way_text c.args.profile c.args.lines.now) c.args.ways.now c.index-ways-index.result c.loop-index.index
    (string_bytes c.args.text.now ++ flat_map (way_text c.args.profile c.args.lines.now) (ways_seen c.args.ways.now)) (string_bytes c.loop-index.text) (string_bytes c.push_way.new.text)
    c.loop-index-test.true c.index-ways-index.is c.in_ok-push_way.ensures c.loop-index.invariant
