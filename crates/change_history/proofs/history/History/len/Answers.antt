use Rattle.std.proofs.Common.{ap, arith, length, subst}
use Rattle.change_ops.specs.Sizes.{most_changes}
use Rattle.change_history.specs.Accepted.{AreAccepted}
use Rattle.change_history.specs.Chronicle.{Chronicle}
use Rattle.change_history.proofs.Chronicle.{few_accepted}
use Rattle.change_history.proofs.history.History.len.Goals as goal

pub returns-clause-value : goal.returns-clause-value
returns-clause-value c = let same = ap (λ (h : Chronicle). length h.changes) c.self.view_is in omega (arith, same)

pub returns-clause-most : goal.returns-clause-most
returns-clause-most c =
    let few = few_accepted c.self.inside.changes c.self.invariant.0.accepted in
    let same = ap (λ (h : Chronicle). most_changes h.size) c.self.view_is in
    omega (arith, few, same)

pub returns-clause-accepted : goal.returns-clause-accepted
returns-clause-accepted c = subst (λ (h : Chronicle). AreAccepted h.size h.changes) c.self.view_is c.self.invariant.0.accepted
