use Rattle.std.proofs.Common.{◌≡◌, ◌∙◌, ◌+◌, Some, length, arith}
use Rattle.std.specs.List.{slice_get}
use Rattle.std.proofs.lemmas.List.{length-set}
use Rattle.mark_anchors.proofs.Lists.{read_at}
use Rattle.mark_anchors.proofs.Segments.{added_none, added_more, added_all}
use Rattle.mark_anchors.proofs.comment_segments.add_run.Goals as goal

pub loop-segment-init : goal.loop-segment-init
loop-segment-init c = record {
  sized = c.requires.sized;
  added =
      λ runs are.
      added_none runs c.args.run.now c.args.cuts.now c.args.segments.now.items c.count_near-first.result
      c.count_near-first.ensures.up_to c.count_near-first.ensures.within are;
}

pub loop-segment-preserved : goal.loop-segment-preserved
loop-segment-preserved c =
    let segments = c.loop-segment.segments.items in
    let j = c.loop-segment.segment in
    let old = c.index_mut.result.now in
    let new = c.push.new.self in
    let sized : length segments ≡ length c.args.cuts.now + 1 = c.loop-segment.invariant.sized in
    let there : slice_get segments j ≡ Some old = read_at segments j old c.index_mut.ensures.value (omega arith) in
    record {
      sized = length-set segments j new ∙ sized;
      added =
          λ runs are.
          added_more runs c.args.run.now c.args.cuts.now segments j old new there c.in_ok-push.ensures.items
          (c.loop-segment.invariant.added runs are);
    }

pub returns-clause-more : goal.returns-clause-more
returns-clause-more c =
    λ runs are.
    added_all runs c.args.run.now c.args.cuts.now c.loop-segment.segments.items c.count_below_near-last.result c.loop-segment.segment
    c.count_below_near-last.ensures.below c.loop-segment-test.false c.requires.rising c.loop-segment.invariant.sized
    (c.loop-segment.invariant.added runs are)
