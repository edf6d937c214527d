use Rattle.std.proofs.Common.{◌≡◌, ◌≤◌, take}
use Rattle.format_runs.specs.Runs.{character_count}
use Rattle.format_runs.proofs.runs.index_having.Given as goal

abbrev pub invariant-loop-index : goal.invariant-loop-index
invariant-loop-index l = record {
  counted : l.start ≡ character_count (take l.index l.runs);
  before : l.start ≤ l.place;
}
