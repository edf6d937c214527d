use Rattle.std.proofs.Common.{◌≡◌, Some, ap, subst}
use Rattle.std.specs.List.{slice_get}
use Rattle.mark_anchors.specs.Format.{added}
use Rattle.mark_anchors.specs.Placed.{IsValue}
use Rattle.mark_anchors.proofs.Deciding.{value_none, value_some, added_none, key_of_added}
use Rattle.mark_anchors.proofs.Lists.{read_at}
use Rattle.mark_anchors.proofs.placed.added_at.Goals as goal

pub returns-in_err-mark-clause-value : goal.returns-in_err-mark-clause-value
returns-in_err-mark-clause-value c =
    λ es ops key e h are placed at.
    rw c.from_residual.ensures (value_none ops es c.args.operations.now c.args.marks.now key e c.args.place h are placed at c.in_err-mark.ensures)

pub returns-in-AddMark-clause-value : goal.returns-in-AddMark-clause-value
returns-in-AddMark-clause-value c =
    λ es ops key e h are placed at.
    let mark = c.in_ok-mark.mark in
    let found = c.in_ok-mark.ensures.at in
    let read : slice_get c.args.operations.now mark.index ≡ Some c.index-operations-mark.result =
    read_at c.args.operations.now mark.index c.index-operations-mark.result c.index-operations-mark.is (c.requires found.0 mark found.1) in
    subst (λ o. IsValue ops key e (added o)) c.in-AddMark.is
    (value_some ops es c.args.operations.now c.args.marks.now key e c.args.place h are placed at mark c.in_ok-mark.ensures c.index-operations-mark.result read)

pub returns-in_default-clause-value : goal.returns-in_default-clause-value
returns-in_default-clause-value c =
    λ es ops key e h are placed at.
    let mark = c.in_ok-mark.mark in
    let found = c.in_ok-mark.ensures.at in
    let read : slice_get c.args.operations.now mark.index ≡ Some c.index-operations-mark.result =
    read_at c.args.operations.now mark.index c.index-operations-mark.result c.index-operations-mark.is (c.requires found.0 mark found.1) in
    subst (λ a. IsValue ops key e a) (added_none c.index-operations-mark.result c.in_default.not-AddMark)
    (value_some ops es c.args.operations.now c.args.marks.now key e c.args.place h are placed at mark c.in_ok-mark.ensures c.index-operations-mark.result read)

pub returns-in-AddMark-clause-of_key : goal.returns-in-AddMark-clause-of_key
returns-in-AddMark-clause-of_key c =
    λ es key placed.
    let mark = c.in_ok-mark.mark in
    let found = c.in_ok-mark.ensures.at in
    let read : slice_get c.args.operations.now mark.index ≡ Some c.index-operations-mark.result =
    read_at c.args.operations.now mark.index c.index-operations-mark.result c.index-operations-mark.is (c.requires found.0 mark found.1) in
    key_of_added es c.args.operations.now c.args.marks.now key placed found.0 mark found.1 c.index-operations-mark.result read _ (ap added c.in-AddMark.is)
