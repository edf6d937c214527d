use Rattle.std.proofs.Common.{◌≡◌, ℕ, ◌+◌, List, Some, sym, ap, ◌∙◌, subst, arith}
use Rattle.std.specs.List.{slice_get}
use Rattle.mark_anchors.specs.declared.placed.PlacedMark.{PlacedMark}
use Rattle.mark_anchors.proofs.Grouping.{AreFirstNumbered, numbered_none, numbered_more, numbered_skipped, numbered_all}
use Rattle.mark_anchors.proofs.Lists.{read_at}
use Rattle.mark_anchors.proofs.comments.numbered.Goals.{in-Some+in_ok-push, in_default}
use Rattle.mark_anchors.proofs.comments.numbered.Goals as goal

pub loop-mark-init : goal.loop-mark-init
loop-mark-init c = subst (AreFirstNumbered c.args.marks.now 0) (sym c.in_ok-comments.ensures.items) (numbered_none c.args.marks.now)

pub loop-mark-preserved : goal.loop-mark-preserved
loop-mark-preserved c =
    let marks : List PlacedMark = c.args.marks.now in
    let mark : PlacedMark = c.mark-item.result in
    let k : ℕ = c.loop-mark.mark-index in
    let read : slice_get marks k ≡ Some mark = read_at marks k mark c.mark-item.is c.loop-mark-test.true in
    elim c.match-comment_number.branch [
      | in-Some+in_ok-push w ↦
          subst (AreFirstNumbered marks (k + 1)) (sym (ap (λ v. v.items) w.comments-is ∙ w.in_ok-push.ensures.items))
          (numbered_more marks k mark read c.loop-mark.comments.items c.loop-mark.invariant w.in-Some.number
          (c.comment_number.ensures.some w.in-Some.number w.in-Some.is))
      | in_default w ↦
          subst (AreFirstNumbered marks (k + 1)) (sym (ap (λ v. v.items) w.comments-is))
          (numbered_skipped marks k mark read c.loop-mark.comments.items c.loop-mark.invariant
          (λ n is. w.in_default.not-Some n (c.comment_number.ensures.all n is)))
    ]

pub returns : goal.returns
returns c = numbered_all c.args.marks.now c.loop-mark.mark-index c.loop-mark.comments.items (omega arith) c.loop-mark.invariant
