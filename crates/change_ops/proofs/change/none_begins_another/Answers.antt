use Rattle.change_ops.proofs.ChangeLaws.{no_other}
use Rattle.change_ops.proofs.change.none_begins_another.Goals as goal

pub returns : goal.returns
returns c = no_other
