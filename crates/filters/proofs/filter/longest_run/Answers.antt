use Rattle.std.proofs.Common.{refl}
use Rattle.filters.specs.Filters.{longest_run}
use Rattle.filters.proofs.filter.longest_run.Goals as goal

pub returns : goal.returns
unfolding longest_run
returns c = refl
