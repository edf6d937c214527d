use Rattle.std.proofs.Common.{◌<◌, arith, rules}
use Rattle.bpf_words.specs.Words.{program_of}
use Rattle.known_ways.specs.Told.{ways_seen}
use Rattle.known_ways.proofs.Gathering.{ways_more}
use Rattle.known_ways.proofs.knowledge.Knowledge.ways_into.Goals as goal

pub loop-from-preserved : goal.loop-from-preserved
loop-from-preserved c = λ each within.
    let self = c.args.self.now in
    let less : c.loop-from.from < c.args.slot = search rules in
    ways_more self.profile (program_of self.words.now) c.args.slot c.loop-from.from (ways_seen c.loop-from.ways.items) (ways_seen c.push_ways.new.ways.items)
    (c.loop-from.invariant each within) (c.in_ok-push_ways.ensures each (omega (arith, less, within)))
