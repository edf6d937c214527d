use Rattle.std.proofs.Common.{◌≡◌, length}
use Rattle.bpf_words.specs.Words.{program_of}
use Rattle.known_ways.specs.Ways.{KnownBelow}
use Rattle.known_ways.proofs.before.states_each.Given as goal

abbrev pub invariant-loop-slot : goal.invariant-loop-slot
invariant-loop-slot l = record {
  count : length l.states.items ≡ l.slot;
  known : KnownBelow l.profile (program_of l.words) l.states.items;
}
