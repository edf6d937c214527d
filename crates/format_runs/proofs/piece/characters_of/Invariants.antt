use Rattle.std.proofs.Common.{◌≡◌, take}
use Rattle.format_runs.specs.Runs.{character_count}
use Rattle.format_runs.proofs.piece.characters_of.Given as goal

abbrev pub invariant-loop-run : goal.invariant-loop-run
invariant-loop-run l = l.count ≡ character_count (take l.run-index l.runs)
