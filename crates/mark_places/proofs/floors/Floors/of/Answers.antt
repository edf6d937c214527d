use Rattle.std.proofs.Common.{◌≡◌, ◌+◌, ◌∙◌, Some, length, subst, sym, arith}
use Rattle.std.specs.List.{slice_get}
use Rattle.std.proofs.lemmas.Bool.{true≢false}
use Rattle.mark_anchors.proofs.Lists.{read_at}
use Rattle.mark_places.specs.Floors.{AreFirstFloors}
use Rattle.mark_places.proofs.Keeping.{floors_none, floors_raised, floors_skipped}
use Rattle.mark_places.proofs.floors.Floors.of.Goals.{then-covers_all, else-covers_all}
use Rattle.mark_places.proofs.floors.Floors.of.Goals as goal

pub loop-mark-init : goal.loop-mark-init
loop-mark-init c = floors_none c.args.marks.now c.args.low c.args.high c.new-floors.result c.new-floors.ensures

pub loop-mark-preserved : goal.loop-mark-preserved
loop-mark-preserved c =
    let places = c.args.marks.now in
    let place = c.mark-item.result in
    let k = c.loop-mark.mark-index in
    let read : slice_get places k ≡ Some place = read_at places k place c.mark-item.is c.loop-mark-test.true in
    elim c.if-covers_all.branch [
      | then-covers_all w ↦
          subst (AreFirstFloors places c.args.low c.args.high (k + 1)) (sym w.floors-is)
          (floors_raised places c.args.low c.args.high k place c.loop-mark.floors w.raise.new.self read (c.covers_all.ensures.0 w.if-covers_all.true) w.raise.ensures c.loop-mark.invariant)
      | else-covers_all w ↦
          subst (AreFirstFloors places c.args.low c.args.high (k + 1)) (sym w.floors-is)
          (floors_skipped places c.args.low c.args.high k place c.loop-mark.floors read
          (λ covers. true≢false (sym (c.covers_all.ensures.1 covers) ∙ w.if-covers_all.false)) c.loop-mark.invariant)
    ]

pub returns : goal.returns
returns c =
    let whole : c.loop-mark.mark-index ≡ length c.args.marks.now = omega arith in
    subst (λ n. AreFirstFloors c.args.marks.now c.args.low c.args.high n c.loop-mark.floors) whole c.loop-mark.invariant
