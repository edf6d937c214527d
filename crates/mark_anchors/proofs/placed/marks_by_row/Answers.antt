use Rattle.std.proofs.Common.{◌≡◌, ◌+◌, ◌<◌, ◌∙◌, ℕ, List, Some, length, length-set, set, ap, sym, subst, arith}
use Rattle.std.specs.List.{slice_get}
use Rattle.std.specs.declared.vec.Vec.{Vec}
use Rattle.change_ops.specs.declared.attribute.Key.TheVariants.{Row}
use Rattle.change_ops.specs.declared.keys.TheConstants.{KEYS}
use Rattle.mark_anchors.specs.Placed.{AreFirstByRow}
use Rattle.mark_anchors.specs.declared.placed.PlacedMark.{PlacedMark}
use Rattle.mark_anchors.proofs.Lists.{read_at}
use Rattle.mark_anchors.proofs.Rows.{by_row_none, by_row_more, by_row_still}
use Rattle.mark_anchors.proofs.placed.marks_by_row.Goals.{in-Row+in_ok-push, in_default}
use Rattle.mark_anchors.proofs.placed.marks_by_row.Goals as goal

pub loop-mark-init : goal.loop-mark-init
loop-mark-init c = record {
  sized = c.in_ok-lists.ensures.sized;
  each = λ es operations are. by_row_none es operations c.in_ok-lists.lists.items c.in_ok-lists.ensures;
}

pub loop-mark-preserved : goal.loop-mark-preserved
loop-mark-preserved c =
    let marks : List PlacedMark = c.args.marks.now in
    let mark : PlacedMark = c.mark-item.result in
    let k : ℕ = c.loop-mark.mark-index in
    let lists = c.loop-mark.lists.items in
    let sized : length lists ≡ KEYS = c.loop-mark.invariant.sized in
    let read : slice_get marks k ≡ Some mark = read_at marks k mark c.mark-item.is c.loop-mark-test.true in
    elim c.match-mark.branch [
      | in-Row+in_ok-push w ↦
          let row : ℕ = w.row.result in
          let old = w.index_mut.result.now in
          let new = w.push.new.self in
          let below : row < KEYS = w.row.ensures.limit in
          let there : slice_get lists row ≡ Some old = read_at lists row old w.index_mut.ensures.value (omega (arith, below, sized)) in
          let put : c.match-mark.lists.items ≡ set lists row new = ap (λ v. v.items) w.lists-is in
          let is : mark.key ≡ Row row = w.in-Row.is ∙ ap Row (sym w.row.ensures.value) in
          record {
            sized = ap length put ∙ length-set lists row new ∙ sized;
            each =
                λ es operations are.
                subst (λ (l : List (Vec PlacedMark _)). AreFirstByRow es operations (k + 1) l) (sym put)
                (by_row_more es operations marks are k mark read lists (c.loop-mark.invariant.each es operations are) row old new is there w.in_ok-push.ensures.items);
          }
      | in_default w ↦
          let still : c.match-mark.lists.items ≡ lists = ap (λ v. v.items) w.lists-is in
          record {
            sized = ap length still ∙ sized;
            each =
                λ es operations are.
                subst (λ (l : List (Vec PlacedMark _)). AreFirstByRow es operations (k + 1) l) (sym still)
                (by_row_still es operations marks are k mark read lists (c.loop-mark.invariant.each es operations are) w.in_default.not-Row);
          }
    ]

pub returns : goal.returns
returns c =
    λ es operations are.
    let whole : c.loop-mark.mark-index ≡ length c.args.marks.now = omega arith in
    subst (λ n. AreFirstByRow es operations n c.loop-mark.lists.items) (whole ∙ are.sized) (c.loop-mark.invariant.each es operations are)
