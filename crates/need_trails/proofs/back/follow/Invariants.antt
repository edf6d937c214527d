use Rattle.std.proofs.Common.{◌≡◌, ◌-◌, ◌≤◌}
use Rattle.bpf_words.specs.Words.{program_of}
use Rattle.need_trails.specs.Trail.{trail_from, trail}
use Rattle.need_trails.proofs.back.follow.Given as goal

abbrev pub invariant-loop-step : goal.invariant-loop-step
invariant-loop-step l = record {
  same : trail_from l.knowledge.profile (program_of l.knowledge.words.now) (l.slot - l._step) l.last l.since l.at ≡ trail l.knowledge.profile (program_of l.knowledge.words.now) l.fn.wanted l.slot;
  within : l.at ≤ l.slot;
}
