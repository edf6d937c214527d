use Rattle.std.proofs.Common.{◌≡◌, ◌+◌, take}
use Rattle.format_runs.specs.Runs.{row_count}
use Rattle.format_runs.proofs.runs.have_characters.Given as goal

abbrev pub invariant-loop-row : goal.invariant-loop-row
invariant-loop-row l = row_count (take l.row-index l.rows) + l.left ≡ l.count
