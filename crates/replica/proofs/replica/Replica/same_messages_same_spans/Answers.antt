use Rattle.std.proofs.Common.{sym, subst}
use Rattle.char_sequence.specs.Order.{SameSet}
use Rattle.span_flatten.specs.Spans.{AreSpans}
use Rattle.replica.specs.Readiness.{operations_in}
use Rattle.replica.specs.Replicas.{State, IsState}
use Rattle.replica.proofs.Showing.{converge}
use Rattle.replica.proofs.replica.Replica.same_messages_same_spans.Goals as goal

pub returns : goal.returns
returns c = λ spans others one two same first second.
    let a = c.args.self.now in
    let b = c.args.other.now in
    let set = converge a b (subst IsState c.self.view_is c.self.invariant) (subst IsState c.other.view_is c.other.invariant) one two same in
    c.same_set_same_spans.ensures spans others
    (subst (λ (x : State). SameSet (operations_in x.accepted) (operations_in c.other.inside.buffer.accepted)) (sym c.self.view_is)
    (subst (λ (y : State). SameSet (operations_in a.accepted) (operations_in y.accepted)) (sym c.other.view_is) set))
    (subst (λ (x : State). AreSpans (operations_in x.accepted) spans) (sym c.self.view_is) first)
    (subst (λ (y : State). AreSpans (operations_in y.accepted) others) (sym c.other.view_is) second)
