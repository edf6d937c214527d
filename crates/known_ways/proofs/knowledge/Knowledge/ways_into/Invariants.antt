use Rattle.std.proofs.Common.{◌≡◌, ◌≤◌, length}
use Rattle.bpf_words.specs.Words.{program_of}
use Rattle.known_ways.specs.Ways.{KnownBelow, ways_below}
use Rattle.known_ways.specs.Told.{ways_seen}
use Rattle.known_ways.proofs.knowledge.Knowledge.ways_into.Given as goal

abbrev pub invariant-loop-from : goal.invariant-loop-from
invariant-loop-from l =
    KnownBelow l.self.profile (program_of l.self.words.now) l.self.states.items → l.slot ≤ length l.self.states.items → ways_seen l.ways.items ≡ ways_below l.self.profile (program_of l.self.words.now) l.slot l.from
