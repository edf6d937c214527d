use Rattle.std.proofs.Common.{◌≡◌, Some, IfOk, MatchOption, subst}
use Rattle.std.specs.List.{slice_get}
use Rattle.replica.specs.Messages.{Message}
use Rattle.replica.specs.Readiness.{HasCauses}
use Rattle.replica.specs.Buffers.{WaitsFor}
use Rattle.replica.specs.Replicas.{State, IsState}
use Rattle.replica.proofs.Delivering.{waits_named}
use Rattle.replica.proofs.replica.Replica.waiting_for.Goals as goal

pub returns-clause-named : goal.returns-clause-named
returns-clause-named c = subst (λ (s : State). IfOk c.waiting_for.result (λ waited. (message : Message) → slice_get s.held c.args.index ≡ Some message → MatchOption waited (HasCauses s.accepted message) (WaitsFor s.accepted message))) c.self.view_is c.waiting_for.ensures

pub returns-clause-some : goal.returns-clause-some
returns-clause-some c =
    waits_named c.args.self.now c.args.index c.waiting_for.result (subst IsState c.self.view_is c.self.invariant) c.requires
    (subst (λ (s : State). IfOk c.waiting_for.result (λ waited. (message : Message) → slice_get s.held c.args.index ≡ Some message → MatchOption waited (HasCauses s.accepted message) (WaitsFor s.accepted message))) c.self.view_is c.waiting_for.ensures)
