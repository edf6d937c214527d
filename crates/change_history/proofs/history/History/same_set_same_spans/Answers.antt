use Rattle.std.proofs.Common.{subst}
use Rattle.change_history.specs.Chronicle.{Chronicle}
use Rattle.change_history.specs.Accepted.{operations_of}
use Rattle.change_history.specs.Kept.{Keeps}
use Rattle.change_history.proofs.history.History.same_set_same_spans.Goals as goal

pub returns : goal.returns
returns c = λ spans others same first second.
    let kept = subst (λ (h : Chronicle). Keeps (operations_of h.changes) c.self.inside.parts) c.self.view_is c.self.invariant.0.kept in
    c.same_set_same_spans.ensures (operations_of c.args.self.now.changes) (operations_of c.args.other.now.changes) spans others kept same first second
