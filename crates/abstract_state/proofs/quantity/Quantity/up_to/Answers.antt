use Rattle.std.proofs.Common.{arith}
use Rattle.abstract_state.proofs.quantity.Quantity.up_to.Goals as goal

pub returns-clause-contains : goal.returns-clause-contains
returns-clause-contains c = λ lengths x h. record {
  bits = c.between.ensures.contains x (omega arith) h;
  range = record { low = omega arith; high = h };
  tails = c.none.ensures.contains lengths x;
}
