use Rattle.std.proofs.Common.{◌≡◌, ◌+◌, Some, sym, subst}
use Rattle.std.specs.List.{slice_get}
use Rattle.mark_anchors.specs.Placed.{AreFirstMarks}
use Rattle.mark_anchors.proofs.Gathering.{marks_none, marks_more}
use Rattle.mark_anchors.proofs.Lists.{read_at, contains_from}
use Rattle.mark_anchors.proofs.placed.placed_marks.Goals as goal

pub placed_mark-requires : goal.placed_mark-requires
placed_mark-requires c =
    let operation = c.index-operations-index.result in
    let read : slice_get c.args.operations.now c.loop-index.index ≡ Some operation = read_at c.args.operations.now c.loop-index.index operation c.index-operations-index.is c.loop-index-test.true in
    let held = contains_from c.args.operations.now c.loop-index.index operation read in
    record { mark = c.requires.2.marking operation held; shown = (c.requires.0, c.requires.1, c.requires.2.held operation held) }

pub loop-index-init : goal.loop-index-init
loop-index-init c = subst (AreFirstMarks c.args.places.now c.args.operations.now 0) (sym c.in_ok-marks.ensures.items) (marks_none c.args.places.now c.args.operations.now)

pub loop-index-preserved : goal.loop-index-preserved
loop-index-preserved c =
    let operation = c.index-operations-index.result in
    let read : slice_get c.args.operations.now c.loop-index.index ≡ Some operation = read_at c.args.operations.now c.loop-index.index operation c.index-operations-index.is c.loop-index-test.true in
    subst (AreFirstMarks c.args.places.now c.args.operations.now (c.loop-index.index + 1)) (sym c.in_ok-push.ensures.items)
    (marks_more c.args.places.now c.args.operations.now c.loop-index.index operation c.loop-index.marks.items c.placed_mark.result read c.placed_mark.ensures.placed c.placed_mark.ensures.index c.loop-index.invariant)
