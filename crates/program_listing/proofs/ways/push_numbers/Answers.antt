use Rattle.std.proofs.Common.{◌++◌, string_bytes}
use Rattle.known_ways.specs.Told.{way_seen, ways_seen}
use Rattle.program_listing.specs.Listing.{number_behind, numbers_behind}
use Rattle.program_listing.proofs.Texts.{told_next}
use Rattle.program_listing.proofs.ways.push_numbers.Goals as goal

pub loop-index-preserved : goal.loop-index-preserved
loop-index-preserved c =
    told_next way_seen number_behind c.args.ways.now c.index-ways-index.result c.loop-index.index
    (string_bytes c.args.text.now ++ numbers_behind (ways_seen c.args.ways.now)) (string_bytes c.loop-index.text) (string_bytes c.push_number.new.text)
    c.loop-index-test.true c.index-ways-index.is c.in_ok-push_number.ensures c.loop-index.invariant
