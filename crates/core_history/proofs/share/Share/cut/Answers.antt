use Rattle.std.proofs.Common.{sym, subst}
use Rattle.core_history.specs.Shares.{Counts}
use Rattle.core_history.proofs.Counting.{counts_none, counts_parts}
use Rattle.core_history.proofs.share.Share.cut.Goals as goal

pub invariant_of-self : goal.invariant_of-self
invariant_of-self g c =
    subst (Counts c.self.inside.count) (sym c.cut.ensures.left) (counts_parts _ _ _ c.self.invariant)

pub invariant_of-result : goal.invariant_of-result
invariant_of-result g c = subst (Counts 0) (sym c.cut.ensures.given) (counts_none _ _)
