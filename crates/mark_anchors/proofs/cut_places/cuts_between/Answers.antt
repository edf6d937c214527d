use Rattle.std.proofs.Common.{◌≡◌, ◌∙◌, ◌-◌, ◌∷◌, ◌++◌, [], ℕ, List, take, drop, sym, ap, subst}
use Rattle.mark_anchors.specs.Resolution.{AreInWindow}
use Rattle.mark_anchors.proofs.Windows.{window_order, in_window, no_window}
use Rattle.mark_anchors.proofs.cut_places.cuts_between.Goals as goal

pub returns-then-high-low : goal.returns-then-high-low
returns-then-high-low c = subst (AreInWindow c.args.places.now c.args.low c.args.high) (sym c.new.ensures.items) (no_window c.args.places.now c.args.low c.args.high c.if-high-low.true)

pub overflow_sub-to : goal.overflow_sub-to
overflow_sub-to c =
    let from = c.count_up_to-from in
    let to = c.count_below-to in
    window_order c.args.places.now c.args.low c.args.high from.result to.result c.requires c.if-high-low.false
    from.ensures.up_to to.ensures.below from.ensures.within to.ensures.within

pub slice_bounds-extend_from_slice-count : goal.slice_bounds-extend_from_slice-count
slice_bounds-extend_from_slice-count c =
    let from = c.count_up_to-from in
    let to = c.count_below-to in
    window_order c.args.places.now c.args.low c.args.high from.result to.result c.requires c.if-high-low.false
    from.ensures.up_to to.ensures.below from.ensures.within to.ensures.within

pub slice_bounds-extend_from_slice-start : goal.slice_bounds-extend_from_slice-start
slice_bounds-extend_from_slice-start c =
    let from = c.count_up_to-from in
    let to = c.count_below-to in
    window_order c.args.places.now c.args.low c.args.high from.result to.result c.requires c.if-high-low.false
    from.ensures.up_to to.ensures.below from.ensures.within to.ensures.within

pub returns : goal.returns
returns c =
    let places : List ℕ = c.args.places.now in
    let from = c.count_up_to-from in
    let to = c.count_below-to in
    let part : List ℕ = take (to.result - from.result) (drop from.result places) in
    let high : ℕ = c.args.high in
    let copied : c.extend_from_slice.new.self.items ≡ part = c.in_ok-extend_from_slice.ensures.items ∙ ap (λ (l : List ℕ). l ++ part) c.in_ok-cuts.ensures.items in
    let items : c.push.new.self.items ≡ part ++ high ∷ [] = c.in_ok-push.ensures.items ∙ ap (λ (l : List ℕ). l ++ high ∷ []) copied in
    subst (AreInWindow places c.args.low high) (sym items)
    (in_window places c.args.low high from.result to.result c.requires c.if-high-low.false from.ensures.up_to to.ensures.below from.ensures.within to.ensures.within)
