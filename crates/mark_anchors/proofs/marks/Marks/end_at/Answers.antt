use Rattle.std.proofs.Common.{◌≡◌, ◌+◌, ℕ, List, [], ◌∷◌, ◌++◌, Some, ap, sym, subst, ◌∙◌, length, arith}
use Rattle.std.specs.List.{slice_get}
use Rattle.std.proofs.lemmas.Bool.{false≢true}
use Rattle.change_ops.specs.declared.id.OpId.{OpId}
use Rattle.change_ops.specs.declared.operation.Op.{Op}
use Rattle.mark_anchors.specs.Anchored.{Ends}
use Rattle.mark_anchors.specs.Marks.{AreKept}
use Rattle.mark_anchors.proofs.AtAnchor.{AreFound, found_more, found_skipped, ids_found}
use Rattle.mark_anchors.proofs.Lists.{read_at}
use Rattle.mark_anchors.proofs.marks.Marks.end_at.Goals.{then-ends_at+in_ok-push, else-ends_at}
use Rattle.mark_anchors.proofs.marks.Marks.end_at.Goals as goal

pub loop-operation-preserved : goal.loop-operation-preserved
loop-operation-preserved c =
    let marks : List Op = c.args.self.now in
    let operation : Op = c.operation-item.result in
    let k : ℕ = c.loop-operation.operation-index in
    let kept : AreKept marks = subst AreKept c.self.view_is c.self.invariant in
    let items : c.deref-operation-items.result.now ≡ marks = c.deref-operation-items.ensures.value ∙ c.self.view_is in
    let read : slice_get marks k ≡ Some operation = subst (λ (l : List Op). slice_get l k ≡ Some operation) items (read_at c.deref-operation-items.result.now k operation c.operation-item.is c.loop-operation-test.true) in
    elim c.if-ends_at.branch [
      | then-ends_at+in_ok-push w ↦
          subst (AreFound Ends marks (k + 1) c.args.anchor.now) (sym (ap (λ v. v.items) w.ids-is ∙ w.in_ok-push.ensures.items ∙ ap (λ (x : OpId). c.loop-operation.ids.items ++ x ∷ []) w.id.ensures))
          (found_more Ends marks kept k operation read c.args.anchor.now c.loop-operation.ids.items c.loop-operation.invariant (c.ends_at.ensures.0 w.if-ends_at.true))
      | else-ends_at w ↦
          subst (AreFound Ends marks (k + 1) c.args.anchor.now) (sym (ap (λ v. v.items) w.ids-is))
          (found_skipped Ends marks kept k operation read c.args.anchor.now c.loop-operation.ids.items c.loop-operation.invariant
          (λ stands. false≢true (sym w.if-ends_at.false ∙ c.ends_at.ensures.1 stands)))
    ]

pub returns : goal.returns
returns c =
    let marks : List Op = c.args.self.now in
    let items : c.deref-operation-items.result.now ≡ marks = c.deref-operation-items.ensures.value ∙ c.self.view_is in
    let sized = ap length items in
    let whole : c.loop-operation.operation-index ≡ length marks = omega arith in
    ids_found Ends marks c.loop-operation.operation-index c.args.anchor.now c.loop-operation.ids.items c.sorted.result.items whole c.loop-operation.invariant c.sorted.ensures.same
    (c.sorted.ensures.rising c.loop-operation.invariant.apart)
