use Rattle.std.proofs.Common.{◌≡◌, ◌∙◌, List, take, length, ap, subst, sym, arith}
use Rattle.std.specs.Arc.{arc_slice_items}
use Rattle.std.specs.declared.vec.Vec.{Vec}
use Rattle.std.proofs.Math.Seq.{take-length}
use Rattle.mark_anchors.specs.CommentLists.{AreSegments, vec_runs}
use Rattle.mark_anchors.specs.declared.comment_runs.CommentRun.{CommentRun}
use Rattle.mark_anchors.proofs.Alike.{ok_more}
use Rattle.mark_anchors.proofs.Segments.{segments_none, first_more}
use Rattle.mark_anchors.proofs.comment_segments.segments.Goals as goal

pub loop-run-init : goal.loop-run-init
loop-run-init c = segments_none c.args.cuts.now c.in_ok-segments.segments.items c.requires.rising c.in_ok-segments.ensures.sized c.in_ok-segments.ensures.empty

pub loop-run-preserved : goal.loop-run-preserved
loop-run-preserved c =
    let runs : List CommentRun = c.args.runs.now in
    let k = c.loop-run.run-index in
    subst (λ (rs : List CommentRun). AreSegments vec_runs rs c.args.cuts.now c.add_run.new.segments.items)
    (first_more runs k c.run-item.result c.run-item.is c.loop-run-test.true)
    (c.in_ok-add_run.ensures.more (take k runs) c.loop-run.invariant)

pub returns : goal.returns
returns c =
    let runs : List CommentRun = c.args.runs.now in
    let whole : c.loop-run.run-index ≡ length runs = omega arith in
    let first : take c.loop-run.run-index runs ≡ runs = ap (λ n. take n runs) whole ∙ take-length runs in
    let all : AreSegments vec_runs runs c.args.cuts.now c.deref.result.now =
    subst (λ (ss : List (Vec CommentRun _)). AreSegments vec_runs runs c.args.cuts.now ss) (sym c.deref.ensures.value)
    (subst (λ (rs : List CommentRun). AreSegments vec_runs rs c.args.cuts.now c.loop-run.segments.items) first c.loop-run.invariant) in
    ok_more
    (λ shared. (rs : List CommentRun) (cuts : List _) → AreSegments vec_runs rs cuts c.deref.result.now → AreSegments arc_slice_items rs cuts shared.items)
    (λ shared. AreSegments arc_slice_items runs c.args.cuts.now shared.items) c.shared.result (λ shared are. are runs c.args.cuts.now all) c.shared.ensures
