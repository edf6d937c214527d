use Rattle.std.proofs.Common.{◌≤◌, List, ap, subst}
use Rattle.change_ops.specs.Changes.{Change}
use Rattle.change_ops.specs.Sizes.{most_changes}
use Rattle.change_ops.specs.declared.size.Size.{Size}
use Rattle.change_history.specs.Accepted.{AreAccepted}
use Rattle.hub_core.specs.Machine.{Core}
use Rattle.hub_core.proofs.hub.Core.count.Goals as goal

pub returns-clause-most : goal.returns-clause-most
returns-clause-most g c = subst (λ (z : Size). c.len.result ≤ most_changes z) c.self.invariant.0 c.len.ensures.most

pub returns-clause-accepted : goal.returns-clause-accepted
returns-clause-accepted g c =
    subst (λ (x : Size × List Change). AreAccepted x.0 x.1) (λ i. (c.self.invariant.0 i, ap (λ (z : Core g.row.S.Denot). z.changes) c.self.view_is i)) c.len.ensures.accepted
