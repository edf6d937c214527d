use Rattle.std.proofs.Common.{◌≡◌, ◌∙◌, ℕ, List, length, sym, ap, subst}
use Rattle.std.specs.Arc.{arc_slice_items}
use Rattle.std.specs.List.Sorted.{IsStrictlyIncreasing}
use Rattle.mark_anchors.specs.CommentRuns.{numbers_at}
use Rattle.mark_anchors.specs.declared.comment_runs.CommentRun.{CommentRun}
use Rattle.mark_anchors.proofs.Counting.{increasing_at}
use Rattle.mark_anchors.proofs.Segments.{segment_numbers}
use Rattle.mark_anchors.proofs.comment_table.CommentTable.at.Goals as goal

pub invariant_of-result : goal.invariant_of-result
invariant_of-result c =
    let runs : List CommentRun = c.self.inside.runs.items in
    let place : ℕ = c.args.place in
    let same : numbers_at (arc_slice_items c.in_ok-clone.field-0) place ≡ numbers_at runs place =
    segment_numbers runs c.self.inside.cuts.items c.deref.result.now c.self.inside.segments.items place c.count_near-segment.result c.index.result.now c.in_ok-clone.field-0
    c.self.invariant.1 c.deref.ensures.value c.count_near-segment.ensures.up_to c.count_near-segment.ensures.within c.index.ensures c.in_ok-clone.ensures.cases in
    record {
      counted = c.count_at-count.ensures ∙ ap (λ (rs : List CommentRun). length (numbers_at rs place)) (sym c.self.view_is) ∙ ap length (sym same);
      rising = subst IsStrictlyIncreasing (sym same) (increasing_at runs place c.self.invariant.0.orderly);
    }

pub returns-clause-numbers : goal.returns-clause-numbers
returns-clause-numbers c =
    segment_numbers c.self.inside.runs.items c.self.inside.cuts.items c.deref.result.now c.self.inside.segments.items c.args.place c.count_near-segment.result c.index.result.now c.in_ok-clone.field-0
    c.self.invariant.1 c.deref.ensures.value c.count_near-segment.ensures.up_to c.count_near-segment.ensures.within c.index.ensures c.in_ok-clone.ensures.cases
    ∙ ap (λ (rs : List CommentRun). numbers_at rs c.args.place) c.self.view_is

pub returns-clause-rising : goal.returns-clause-rising
returns-clause-rising c =
    let runs : List CommentRun = c.self.inside.runs.items in
    let place : ℕ = c.args.place in
    let same : numbers_at (arc_slice_items c.in_ok-clone.field-0) place ≡ numbers_at runs place =
    segment_numbers runs c.self.inside.cuts.items c.deref.result.now c.self.inside.segments.items place c.count_near-segment.result c.index.result.now c.in_ok-clone.field-0
    c.self.invariant.1 c.deref.ensures.value c.count_near-segment.ensures.up_to c.count_near-segment.ensures.within c.index.ensures c.in_ok-clone.ensures.cases in
    subst IsStrictlyIncreasing (sym same) (increasing_at runs place c.self.invariant.0.orderly)
