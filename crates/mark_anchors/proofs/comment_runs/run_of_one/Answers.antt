use Rattle.std.proofs.Common.{◌≡◌, ◌↔◌, ◌<◌, ◌≤◌, Some, subst, arith}
use Rattle.std.specs.Bool.{IsTrue}
use Rattle.std.specs.List.{slice_get}
use Rattle.std.specs.Option.{is_some}
use Rattle.std.proofs.lemmas.Bool.{false≢true}
use Rattle.change_ops.specs.declared.attribute.Attribute.TheVariants.{Comment}
use Rattle.change_ops.specs.declared.operation.Op.{Op}
use Rattle.mark_anchors.specs.Format.{Bears, added}
use Rattle.mark_anchors.specs.Placed.{CoversPlace}
use Rattle.mark_anchors.specs.declared.placed.PlacedMark.{PlacedMark}
use Rattle.mark_anchors.proofs.Adding.{bears_one}
use Rattle.mark_anchors.proofs.Deciding.{added_none}
use Rattle.mark_anchors.proofs.Lists.{read_at}
use Rattle.mark_anchors.proofs.comment_runs.run_of_one.Goals as goal

pub returns-in_default : goal.returns-in_default
returns-in_default c = record {
  run = tt;
  along = tt;
  holding =
      λ es ops p e h are placed at.
      let mark : PlacedMark = c.args.mark.now in
      let operation : Op = c.index-operations-mark.result in
      let read : slice_get c.args.operations.now mark.index ≡ Some operation =
      read_at c.args.operations.now mark.index operation c.index-operations-mark.is c.requires in
      subst (λ a. Bears ops e (Comment c.args.number) ↔ (IsTrue (is_some a) × CoversPlace mark p))
      (added_none operation c.in_default.not-AddMark)
      (bears_one ops es c.args.operations.now mark c.args.number operation e p h are placed read at);
}

pub returns-then-mark-clause-holding : goal.returns-then-mark-clause-holding
returns-then-mark-clause-holding c =
    λ es ops p e h are placed at.
    let mark : PlacedMark = c.args.mark.now in
    let operation : Op = c.index-operations-mark.result in
    let read : slice_get c.args.operations.now mark.index ≡ Some operation =
    read_at c.args.operations.now mark.index operation c.index-operations-mark.is c.requires in
    let bears = bears_one ops es c.args.operations.now mark c.args.number operation e p h are placed read at in (
      λ b.
          let covers : CoversPlace mark p = (bears.0 b).1 in
          let begun : mark.start ≤ p = covers.0 in
          let on : p < mark.end = covers.1 in
          absurd (omega arith),
      λ r. absurd (false≢true r.0),
    )

pub returns-clause-holding : goal.returns-clause-holding
returns-clause-holding c =
    λ es ops p e h are placed at.
    let mark : PlacedMark = c.args.mark.now in
    let operation : Op = c.index-operations-mark.result in
    let read : slice_get c.args.operations.now mark.index ≡ Some operation =
    read_at c.args.operations.now mark.index operation c.index-operations-mark.is c.requires in
    subst (λ o. Bears ops e (Comment c.args.number) ↔ (IsTrue (is_some (added o)) × CoversPlace mark p)) c.in-AddMark.is
    (bears_one ops es c.args.operations.now mark c.args.number operation e p h are placed read at)
