use Rattle.change_join.proofs.JoinedChanges.{replaces}
use Rattle.change_join.proofs.joining.joined_replace.Goals as goal

pub returns : goal.returns
returns c = replaces
