use Rattle.std.proofs.Common.{◌+◌, ◌*◌}
use Rattle.loop_bounds.proofs.bounds.Bounding.+bound.Given as goal

abbrev pub decreases-potentials : goal.decreases-potentials
decreases-potentials l = 2 * l.depth + 1

abbrev pub decreases-turns : goal.decreases-turns
decreases-turns l = 2 * l.depth
