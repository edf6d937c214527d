use Rattle.std.proofs.Common.{◌≡◌, ◌≤◌, ◌+◌, ◌*◌, ◌++◌, take}
use Rattle.format_runs.specs.Budgets.{format_bytes}
use Rattle.format_runs.specs.Runs.{runs_in}
use Rattle.format_runs.proofs.draft.push_rows.Given as goal

abbrev pub invariant-loop-row : goal.invariant-loop-row
invariant-loop-row l = record {
  runs : l.runs.items ≡ l.initial.runs.items ++ runs_in (take l.row-index l.rows);
  spent : l.initial.budget ≤ l.budget + format_bytes * l.row-index;
  less : l.budget ≤ l.initial.budget;
}
