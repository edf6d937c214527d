use Rattle.std.proofs.Common.{All, map, sym, subst, ◌∙◌}
use Rattle.std.proofs.lemmas.Option.{same_Some, none-some}
use Rattle.mark_places.specs.Ranks.{mark_raised}
use Rattle.mark_places.specs.Touching.{IsApart}
use Rattle.mark_places.specs.declared.range.PlaceRange.{PlaceRange}
use Rattle.mark_places.proofs.Blocks.{ranges_apart}
use Rattle.mark_places.proofs.block.PlaceBlock.may_touch.Goals as goal

pub returns-in-Some : goal.returns-in-Some
returns-in-Some c =
    λ no.
    let b = c.self.inside in
    let shift = c.args.shift in
    let marks = map (mark_raised shift.from shift.by) c.args.self.now in
    ranges_apart shift.from shift.by c.args.ranges.now b.offset b.least b.greatest b.names.items b.starts.items b.ends.items c.args.self.now c.self.view_is c.self.invariant
    c.overlapping.result c.place_of-low.result c.place_of-high.result c.place_of-low.ensures c.place_of-high.ensures c.overlapping.ensures
    (λ h is. subst (λ (z : PlaceRange). All (IsApart z.low z.high) marks) (same_Some c.in-Some.hull h (sym c.in-Some.is ∙ is)) (c.may_touch_between.ensures no))

pub returns-in-None : goal.returns-in-None
returns-in-None c =
    λ no.
    let b = c.self.inside in
    let shift = c.args.shift in
    ranges_apart shift.from shift.by c.args.ranges.now b.offset b.least b.greatest b.names.items b.starts.items b.ends.items c.args.self.now c.self.view_is c.self.invariant
    c.overlapping.result c.place_of-low.result c.place_of-high.result c.place_of-low.ensures c.place_of-high.ensures c.overlapping.ensures
    (λ h is. absurd (none-some h (sym c.in-None.is ∙ is)))
