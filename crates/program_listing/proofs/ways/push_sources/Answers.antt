use Rattle.std.proofs.Common.{◌++◌, ◌∙◌, List, get_or, string_bytes, ap}
use Rattle.std.proofs.lemmas.List.{take_rest}
use Rattle.known_ways.specs.declared.way.KnownWay.{KnownWay}
use Rattle.known_ways.specs.Told.{ways_seen}
use Rattle.program_listing.specs.Listing.{numbers_behind}
use Rattle.program_listing.proofs.Texts.{sources_whole}
use Rattle.program_listing.proofs.ways.push_sources.Goals as goal

pub returns : goal.returns
unfolding lib.Utf8.encode
returns c =
    let ways = c.args.ways.now in
    sources_whole ways (get_or ways 0 c.index-ways-0.result) (string_bytes c.args.text.now) (string_bytes c.write.new.self) (string_bytes c.push_numbers.new.text) (string_bytes c.push.new.self)
    c.requires (ap (λ (way : KnownWay). get_or ways 0 way) c.index-ways-0.is) c.in_ok-write.ensures.bytes
    (c.in_ok-push_numbers.ensures ∙ ap (λ (more : List KnownWay). string_bytes c.write.new.self ++ numbers_behind (ways_seen more)) (take_rest ways 1))
    c.in_ok-push.ensures.bytes
