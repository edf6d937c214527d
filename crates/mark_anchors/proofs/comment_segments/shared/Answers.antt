use Rattle.std.proofs.Common.{◌≡◌, ◌∙◌, Some, length, arith}
use Rattle.std.specs.Arc.{arc_slice_items}
use Rattle.std.specs.List.{slice_get}
use Rattle.mark_anchors.specs.CommentLists.{vec_runs}
use Rattle.mark_anchors.proofs.Lists.{read_at}
use Rattle.mark_anchors.proofs.Segments.{shared_more, shared_all}
use Rattle.mark_anchors.proofs.comment_segments.shared.Goals as goal

pub loop-runs-preserved : goal.loop-runs-preserved
loop-runs-preserved c =
    let k = c.loop-runs.runs-index in
    let runs = c.runs-item.result in
    let read : slice_get c.args.segments.now k ≡ Some runs = read_at c.args.segments.now k runs c.runs-item.is c.loop-runs-test.true in
    let same : arc_slice_items c.in_ok-from_slice.field-0 ≡ vec_runs runs = c.in_ok-from_slice.ensures.ok ∙ c.deref.ensures.value in
    shared_more k c.args.segments.now c.loop-runs.shared.items c.push.new.self.items runs c.in_ok-from_slice.field-0 read same
    c.in_ok-push.ensures.items c.loop-runs.invariant

pub returns : goal.returns
returns c =
    let all : c.loop-runs.runs-index ≡ length c.args.segments.now = omega arith in
    shared_all c.args.segments.now c.loop-runs.shared.items c.loop-runs.runs-index all c.loop-runs.invariant
