use Rattle.filters.proofs.Ends.{verdict_within}
use Rattle.filters.proofs.more_steps_change_nothing.Goals as goal

pub returns : goal.returns
returns c = verdict_within
