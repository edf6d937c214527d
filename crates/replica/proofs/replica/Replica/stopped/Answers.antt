use Rattle.std.proofs.Common.{ap, sym, ◌∙◌, subst}
use Rattle.replica.specs.Replicas.{State, IsState}
use Rattle.replica.proofs.Showing.{shows, stops_so}
use Rattle.replica.proofs.replica.Replica.stopped.Goals as goal

pub returns-clause-ready : goal.returns-clause-ready
returns-clause-ready c = λ none. shows c.args.self.now (subst IsState c.self.view_is c.self.invariant) (sym (ap (λ (s : State). s.stopped) c.self.view_is) ∙ none)

pub returns-clause-full : goal.returns-clause-full
returns-clause-full c = λ error so. stops_so c.args.self.now error (subst IsState c.self.view_is c.self.invariant) (sym (ap (λ (s : State). s.stopped) c.self.view_is) ∙ so)
