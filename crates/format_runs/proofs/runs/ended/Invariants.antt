use Rattle.std.proofs.Common.{◌≡◌, ◌≤◌, take}
use Rattle.format_runs.specs.Runs.{character_count}
use Rattle.format_runs.proofs.runs.ended.Given as goal

abbrev pub invariant-loop-run : goal.invariant-loop-run
invariant-loop-run l = record {
  counted : l.start ≡ character_count (take l.run-index l.runs);
  up_to : l.start ≤ l.place;
  index : l.count ≡ l.run-index;
}
