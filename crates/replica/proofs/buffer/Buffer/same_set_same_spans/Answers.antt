use Rattle.std.proofs.Common.{◌≡◌, List, ap, sym, ◌∙◌, subst}
use Rattle.change_ops.specs.declared.operation.Op.{Op}
use Rattle.char_sequence.specs.Order.{SameSet}
use Rattle.span_flatten.specs.Spans.{AreSpans}
use Rattle.change_history.specs.Accepted.{operations_of}
use Rattle.replica.specs.Readiness.{operations_in}
use Rattle.replica.specs.Buffers.{Buffered}
use Rattle.replica.proofs.Accepting.{operations_behind}
use Rattle.replica.proofs.buffer.Buffer.same_set_same_spans.Goals as goal

pub returns : goal.returns
returns c = λ spans others same first second.
    let mine : operations_in c.args.self.now.accepted ≡ operations_of c.self.inside.history.changes = ap (λ (b : Buffered). operations_in b.accepted) (sym c.self.view_is) ∙ operations_behind c.self.inside.history.changes in
    let theirs : operations_in c.args.other.now.accepted ≡ operations_of c.other.inside.history.changes = ap (λ (b : Buffered). operations_in b.accepted) (sym c.other.view_is) ∙ operations_behind c.other.inside.history.changes in
    c.same_set_same_spans.ensures spans others
    (subst (λ (xs : List Op). SameSet xs (operations_of c.other.inside.history.changes)) mine (subst (λ (ys : List Op). SameSet (operations_in c.args.self.now.accepted) ys) theirs same))
    (subst (λ (xs : List Op). AreSpans xs spans) mine first)
    (subst (λ (ys : List Op). AreSpans ys others) theirs second)
