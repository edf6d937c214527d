use Rattle.std.proofs.Common.{◌≡◌, ℕ, ◌<◌, Some}
use Rattle.std.specs.List.{slice_get}
use Rattle.format_runs.specs.Runs.{Run}
use Rattle.version_pieces.specs.Links.{IsLinked}
use Rattle.version_pieces.proofs.links.keep_each.Given as goal

abbrev pub invariant-loop-run : goal.invariant-loop-run
invariant-loop-run l = (i : ℕ) (run : Run) → i < l.run-index → slice_get l.runs i ≡ Some run → IsLinked run.format
