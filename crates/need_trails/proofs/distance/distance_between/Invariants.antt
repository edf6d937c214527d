use Rattle.std.proofs.Common.{◌≡◌, ◌-◌, ◌≤◌}
use Rattle.bpf_words.specs.Words.{program_of}
use Rattle.need_trails.specs.Trail.{distance_after, distance_between}
use Rattle.need_trails.proofs.distance.distance_between.Given as goal

abbrev pub invariant-loop-step : goal.invariant-loop-step
invariant-loop-step l = record {
  same : distance_after l.knowledge.profile (program_of l.knowledge.words.now) (l.slot - l._step) l.pair ≡ distance_between l.knowledge.profile (program_of l.knowledge.words.now) l.slot l.register l.other;
  within : l.pair.slot ≤ l.slot;
}
