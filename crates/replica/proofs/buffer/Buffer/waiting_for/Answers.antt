use Rattle.std.proofs.Common.{sym, subst, ◌∙◌}
use Rattle.std.proofs.lemmas.Option.{same_Some}
use Rattle.replica.specs.Messages.{Message}
use Rattle.replica.specs.Readiness.{HasCauses}
use Rattle.replica.proofs.Waiting.{waited}
use Rattle.replica.proofs.buffer.Buffer.waiting_for.Goals as goal

pub returns-in-Ok : goal.returns-in-Ok
returns-in-Ok c = λ message at. subst (λ (m : Message). HasCauses c.args.self.now.accepted m) (same_Some c.held_at.result.now message (sym c.held_at.ensures.at ∙ at)) c.in-Ok.ensures.0

pub returns-in-Err : goal.returns-in-Err
returns-in-Err c = waited c.args.self.now c.args.index c.held_at.result.now c.in-Err.blocked c.waited_for.result c.held_at.ensures.at c.in-Err.ensures c.waited_for.ensures
