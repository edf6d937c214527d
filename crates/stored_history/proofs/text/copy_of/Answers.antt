use Rattle.std.proofs.Common.{[], ap}
use Rattle.stored_history.proofs.Copies.{spells_all}
use Rattle.stored_history.proofs.text.copy_of.Goals as goal

pub returns-in-Ok : goal.returns-in-Ok
returns-in-Ok c = λ change spelled. ap (λ p. p.0) (c.in-Ok.ensures.complete change [] (spells_all c.args.text.now change spelled))
