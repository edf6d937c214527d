use Rattle.mark_anchors.proofs.Grouping.{commented_from_sort}
use Rattle.mark_anchors.proofs.comments.comment_marks.Goals as goal

pub returns : goal.returns
returns c =
    λ es operations are.
    commented_from_sort es operations c.args.marks.now c.in_ok-comments.comments.items c.by_number.result.items are c.in_ok-comments.ensures
    c.by_number.ensures.same c.by_number.ensures.rising
