use Rattle.std.proofs.Common.{◌<◌, ◌^◌, subst}
use Rattle.replica.specs.Messages.{Message}
use Rattle.replica.proofs.Soundness.{previous_small}
use Rattle.replica.proofs.message.Message.previous.Goals as goal

pub returns-clause-small : goal.returns-clause-small
returns-clause-small c = subst (λ (m : Message). m.previous < 2 ^ 48) c.self.view_is (previous_small (record { previous = c.self.inside.previous; change = c.self.inside.change }) c.self.inside.last c.self.invariant)
