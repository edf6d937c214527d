use Rattle.std.proofs.Common.{true, false, ◌++◌, map, sym, ap, ◌∙◌, arith}
use Rattle.std.proofs.lemmas.Bool.{false≢true}
use Rattle.std.proofs.lemmas.List.{append-nil, take_all, length-map}
use Rattle.mark_places.specs.Ranks.{mark_raised, place_of}
use Rattle.mark_places.specs.Touching.{touching}
use Rattle.mark_places.proofs.Touching.{covered_passes, none_passes, touching_none, gather_more}
use Rattle.mark_places.proofs.block.PlaceBlock.gather.Goals.{then-covers_any+in_ok-extend_from_slice, else-covers_any}
use Rattle.mark_places.proofs.block.PlaceBlock.gather.Goals as goal

pub returns-then-not-may_touch : goal.returns-then-not-may_touch
returns-then-not-may_touch c =
    let none = touching_none c.args.ranges.now (map (mark_raised c.args.shift.from c.args.shift.by) c.args.self.now) (c.may_touch.ensures c.if-not-may_touch.true) in
    sym (ap (λ ms. c.args.found.now.items ++ ms) none ∙ append-nil c.args.found.now.items)

pub loop-i-preserved : goal.loop-i-preserved
loop-i-preserved c =
    let i = c.loop-i.i in
    let r = c.mark-mark.ensures in
    let mark = c.mark-mark.result in
    let ranges = c.args.ranges.now in
    let old = c.args.found.now.items in
    let marks = map (mark_raised c.args.shift.from c.args.shift.by) c.args.self.now in
    elim c.if-covers_any.branch [
      | then-covers_any+in_ok-extend_from_slice w ↦
          gather_more ranges marks i r.0 mark old c.loop-i.found.items c.if-covers_any.found.items true r.1 r.2
          (covered_passes mark ranges (c.covers_any.ensures.0 w.if-covers_any.true)) (ap (λ v. v.items) w.found-is ∙ w.in_ok-extend_from_slice.ensures.items) c.loop-i.invariant
      | else-covers_any w ↦
          gather_more ranges marks i r.0 mark old c.loop-i.found.items c.if-covers_any.found.items false r.1 r.2
          (none_passes mark ranges (λ covers. false≢true (sym w.if-covers_any.false ∙ c.covers_any.ensures.1 covers)))
          (ap (λ v. v.items) w.found-is ∙ sym (append-nil c.loop-i.found.items)) c.loop-i.invariant
    ]

pub returns : goal.returns
returns c =
    let f = mark_raised c.args.shift.from c.args.shift.by in
    let marks = map f c.args.self.now in
    c.loop-i.invariant ∙ ap (λ ms. c.args.found.now.items ++ touching c.args.ranges.now (map place_of ms)) (take_all c.loop-i.i marks (omega (arith, length-map c.args.self.now f)))
