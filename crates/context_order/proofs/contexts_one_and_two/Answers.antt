use Rattle.context_order.proofs.Walks.{allowed_too}
use Rattle.context_order.proofs.contexts_one_and_two.Goals as goal

pub returns : goal.returns
returns c = allowed_too
