use Rattle.std.proofs.Common.{◌≡◌, ◌≤◌, take}
use Rattle.std.specs.List.{slice_range}
use Rattle.format_runs.specs.Runs.{formats_in, formats_of}
use Rattle.format_runs.proofs.runs.SharedRuns.shows.Given as goal

abbrev pub invariant-loop-row : goal.invariant-loop-row
invariant-loop-row l = record {
  order : l.from ≤ l.place;
  shown : slice_range (formats_of l.self) l.from l.place ≡ formats_in (take l.row-index l.rows);
}
