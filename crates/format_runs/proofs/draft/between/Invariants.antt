use Rattle.std.proofs.Common.{◌≡◌, ◌≤◌, length, take}
use Rattle.std.specs.List.{slice_range}
use Rattle.format_runs.specs.Runs.{AreMaximal, character_count, formats_of}
use Rattle.format_runs.proofs.draft.between.Given as goal

abbrev pub invariant-loop-run : goal.invariant-loop-run
invariant-loop-run l = record {
  counted : l.start ≡ character_count (take l.run-index l.runs);
  formats : formats_of l.part.items ≡ slice_range (formats_of (take l.run-index l.runs)) l.from l.to;
  maximal : AreMaximal l.part.items;
  count : length l.part.items ≤ l.run-index;
}
