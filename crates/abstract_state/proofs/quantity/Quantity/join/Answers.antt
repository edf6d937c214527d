use Rattle.std.proofs.Common.{min, ap, ◌∙◌, arith}
use Rattle.abstract_state.specs.declared.region.Tails.{Tails}
use Rattle.abstract_state.specs.Lent.{tail_of}
use Rattle.abstract_state.specs.Quantity.{Contains}
use Rattle.abstract_state.proofs.Options.{at_some, at_none, some_is}
use Rattle.abstract_state.proofs.quantity.Quantity.join.Goals as goal

pub returns-in_default-clause-right : goal.returns-in_default-clause-right
returns-in_default-clause-right c = λ lengths x b.
    absurd (at_none (λ q. Contains q lengths x) _ c.in_default.is (c.normal.ensures.contains lengths x (c.join.ensures.right x b.bits) (c.hull.ensures.right x b.range) (c.lesser.ensures.right lengths x b.tails)))

pub returns-clause-left : goal.returns-clause-left
returns-clause-left c = λ lengths x a.
    at_some (λ q. Contains q lengths x) _ _ c.in-Some.is (c.normal.ensures.contains lengths x (c.join.ensures.left x a.bits) (c.hull.ensures.left x a.range) (c.lesser.ensures.left lengths x a.tails))

pub returns-clause-right : goal.returns-clause-right
returns-clause-right c = λ lengths x b.
    at_some (λ q. Contains q lengths x) _ _ c.in-Some.is (c.normal.ensures.contains lengths x (c.join.ensures.right x b.bits) (c.hull.ensures.right x b.range) (c.lesser.ensures.right lengths x b.tails))

pub returns-in_default-clause-joins : goal.returns-in_default-clause-joins
returns-in_default-clause-joins c = record { low = omega arith; high = omega arith; bits = λ k p q e. p; tails = λ region t u e f. (t, e, omega arith) }

pub returns-clause-joins : goal.returns-clause-joins
returns-clause-joins c =
    let ends = c.hull.ensures.ends in
    let narrows = some_is _ _ _ c.in-Some.is c.normal.ensures.narrows in
    record {
      low = omega (arith, ends.0, narrows.0);
      high = omega (arith, ends.1, narrows.1);
      bits = λ k p q e. (some_is _ _ _ c.in-Some.is c.normal.ensures.bits k (c.join.ensures.agreed k p q e)).0;
      tails = λ region t u e f. (min t u, ap (λ (s : Tails). tail_of s region) narrows.2 ∙ c.lesser.ensures.lesser region t u e f, omega arith);
    }
