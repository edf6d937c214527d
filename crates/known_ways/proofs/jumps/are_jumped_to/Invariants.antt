use Rattle.std.proofs.Common.{◌≡◌, ℕ, ◌<◌, get_or, length, false}
use Rattle.semantics.specs.Step.{Program}
use Rattle.known_ways.specs.Ways.{is_jumped_below}
use Rattle.known_ways.specs.Told.{AreTargets}
use Rattle.known_ways.proofs.jumps.are_jumped_to.Given as goal

abbrev pub invariant-loop-from : goal.invariant-loop-from
invariant-loop-from l = record {
  size : length l.are.items ≡ length l.targets;
  each : (program : Program) → AreTargets program l.targets → (k : ℕ) → k < length l.targets → get_or l.are.items k false ≡ is_jumped_below program k l.from;
}
