use Rattle.guarded_rules.proofs.Steps.{reaches_say}
use Rattle.guarded_rules.proofs.loads_reach.Goals as goal

pub returns : goal.returns
returns c = reaches_say
