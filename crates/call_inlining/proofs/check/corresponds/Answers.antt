use Rattle.std.proofs.Common.{rules}
use Rattle.inlined_calls.specs.Inlined.{placed}
use Rattle.call_inlining.proofs.check.corresponds.Goals as goal

pub returns-then-stands_for : goal.returns-then-stands_for
returns-then-stands_for c = λ is. record {
  begins = c.stands_for.ensures (search rules);
  within = λ slot place stands. (c.all_do.ensures is (placed slot place) stands).0;
  does = λ slot place stands. (c.all_do.ensures is (placed slot place) stands).1;
}
