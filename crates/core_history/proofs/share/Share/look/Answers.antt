use Rattle.std.proofs.Common.{sym, subst}
use Rattle.core_history.specs.Shares.{Counts}
use Rattle.core_history.proofs.Counting.{counts_looked}
use Rattle.core_history.proofs.share.Share.look.Goals as goal

pub invariant_of-self : goal.invariant_of-self
invariant_of-self g c =
    subst (Counts c.self.inside.count) (sym c.look.ensures.me) (counts_looked _ _ _ c.self.invariant c.look.ensures.begins)
