use Rattle.std.proofs.Common.{refl, arith}
use Rattle.abstract_state.proofs.KnownBits.{one_constant}
use Rattle.abstract_state.proofs.quantity.Quantity.begin.Goals as goal

pub returns-clause-contains : goal.returns-clause-contains
returns-clause-contains c = λ lengths. record {
  bits = (c.constant.ensures.contains 0).1 refl;
  range = record { low = omega arith; high = omega arith };
  tails = c.ending.ensures.contains lengths 0 (omega arith);
}

pub returns-clause-is : goal.returns-clause-is
returns-clause-is c = (refl, refl, c.ending.ensures.there, one_constant c.constant.result 0 (omega arith) c.constant.ensures.is)
