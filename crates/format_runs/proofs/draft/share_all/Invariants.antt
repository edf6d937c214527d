use Rattle.std.proofs.Common.{◌≡◌, ◌++◌, take}
use Rattle.format_runs.proofs.draft.share_all.Given as goal

abbrev pub invariant-loop-run : goal.invariant-loop-run
invariant-loop-run l = l.runs.items ≡ l.initial.runs.items ++ take l.run-index l.more
