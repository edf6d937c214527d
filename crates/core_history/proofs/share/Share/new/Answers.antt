use Rattle.std.proofs.Common.{sym}
use Rattle.core_history.proofs.share.Share.new.Goals as goal

pub invariant_of-result : goal.invariant_of-result
invariant_of-result g c = record { own = c.requires.own; accepted = sym c.requires.none }
