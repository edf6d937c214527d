use Rattle.std.proofs.Common.{◌≡◌, ℕ, ◌<◌, get_or, length, None}
use Rattle.std.specs.List.{slice_get}
use Rattle.bpf_words.specs.Words.{program_of}
use Rattle.known_ways.specs.Ways.{target_at}
use Rattle.known_ways.proofs.jumps.targets.Given as goal

abbrev pub invariant-loop-slot : goal.invariant-loop-slot
invariant-loop-slot l = record {
  count : length l.targets.items ≡ l.slot;
  each : (k : ℕ) → k < l.slot → get_or l.targets.items k None ≡ target_at k (slice_get (program_of l.words) k);
}
