use Rattle.std.proofs.Common.{◌≡◌, ◌∙◌, ◌<◌, List, [], ◌∷◌, ◌++◌, length, sym, ap, subst, arith}
use Rattle.change_ops.specs.declared.operation.Op.{Op}
use Rattle.mark_anchors.specs.Marks.{AreKept, AreMarks}
use Rattle.mark_anchors.proofs.AtAnchor.{kept_more}
use Rattle.mark_anchors.proofs.MarkLaws.{marks_push}
use Rattle.mark_anchors.proofs.marks.Marks.add.Goals as goal

pub invariant_of-self-2 : goal.invariant_of-self-2
invariant_of-self-2 c =
    let marks : List Op = c.args.self.now in
    let op : Op = c.args.op.now in
    let kept : AreKept marks = subst AreKept c.self.view_is c.self.invariant in
    let is : c.push_clone.new.operations.items ≡ marks ++ op ∷ [] = c.in_ok-push_clone.ensures.ok ∙ ap (λ (l : List Op). l ++ op ∷ []) c.self.view_is in
    let room : length marks < 16384 = search (arith, c.is_full.ensures, c.if-is_full.false) in
    subst AreKept (sym is) (kept_more marks op kept room c.requires.fresh)

pub returns-clause-marks : goal.returns-clause-marks
returns-clause-marks c =
    λ ops m.
    let is : c.push_clone.new.operations.items ≡ c.args.self.now ++ c.args.op.now ∷ [] = c.in_ok-push_clone.ensures.ok ∙ ap (λ (l : List Op). l ++ c.args.op.now ∷ []) c.self.view_is in
    subst (λ (l : List Op). AreMarks (ops ++ c.args.op.now ∷ []) l) (sym is) (marks_push ops c.args.self.now c.args.op.now c.requires.mark m)
