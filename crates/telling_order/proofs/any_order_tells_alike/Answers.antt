use Rattle.telling_order.proofs.Orders.{any_order}
use Rattle.telling_order.proofs.any_order_tells_alike.Goals as goal

pub returns : goal.returns
returns c = any_order
