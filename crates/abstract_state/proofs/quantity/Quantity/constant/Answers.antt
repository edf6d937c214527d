use Rattle.std.proofs.Common.{refl, arith}
use Rattle.abstract_state.proofs.KnownBits.{one_constant}
use Rattle.abstract_state.proofs.quantity.Quantity.constant.Goals as goal

pub returns-clause-contains : goal.returns-clause-contains
returns-clause-contains c = λ lengths. record {
  bits = (c.constant.ensures.contains c.args.value).1 refl;
  range = record { low = omega arith; high = omega arith };
  tails = c.none.ensures.contains lengths c.args.value;
}

pub returns-clause-is : goal.returns-clause-is
returns-clause-is c = λ region. (refl, refl, c.none.ensures.none region, one_constant c.constant.result c.args.value (omega arith) c.constant.ensures.is)
