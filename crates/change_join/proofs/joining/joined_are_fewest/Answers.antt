use Rattle.change_join.proofs.Groups.{fewest}
use Rattle.change_join.proofs.joining.joined_are_fewest.Goals as goal

pub returns : goal.returns
returns c = fewest
