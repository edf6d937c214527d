use Rattle.std.proofs.Common.{refl}
use Rattle.change_history.proofs.Chronicle.{history_new, no_spare, no_last}
use Rattle.change_history.proofs.history.History.new.Goals as goal

pub invariant_of-result : goal.invariant_of-result
invariant_of-result c = (history_new c.new.result c.new-2.result c.new.ensures c.new-2.ensures, no_spare c.new.result _ refl, no_last c.new.result _ c.new.ensures refl)
