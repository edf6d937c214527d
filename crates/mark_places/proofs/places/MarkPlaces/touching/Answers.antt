use Rattle.std.proofs.Common.{◌≡◌, ◌^◌, ◌++◌, Some, All, map, subst, sym, ap, ◌∙◌, arith}
use Rattle.std.specs.List.{slice_get, flat_map}
use Rattle.std.proofs.lemmas.List.{take_all}
use Rattle.mark_anchors.proofs.Lists.{read_at}
use Rattle.mark_places.specs.Ranks.{mark_raised, place_of, IsBelow}
use Rattle.mark_places.specs.Touching.{touching}
use Rattle.mark_places.specs.declared.ranked.RankedMark.{RankedMark}
use Rattle.mark_places.proofs.Joined.{all_of_block}
use Rattle.mark_places.proofs.Touching.{touching_blocks}
use Rattle.mark_places.proofs.places.MarkPlaces.touching.Goals as goal

pub gather-requires-clause-below : goal.gather-requires-clause-below
gather-requires-clause-below c =
    let i = c.loop-block.block-index in
    let blocks = c.deref-block-items.result.now in
    let b = c.block-item.result in
    let p = c.self.inside.pending in
    let P : RankedMark → Type 0 = λ m. IsBelow (2 ^ 31) (mark_raised p.from p.by m) in
    let at : slice_get blocks i ≡ Some b = read_at blocks i b c.block-item.is c.loop-block-test.true in
    all_of_block P blocks i b (subst (λ bs. All P (flat_map (λ b. b) bs)) (sym c.deref-block-items.ensures.value) c.self.invariant.1) at

pub loop-block-preserved : goal.loop-block-preserved
loop-block-preserved c =
    let i = c.loop-block.block-index in
    let blocks = c.deref-block-items.result.now in
    let b = c.block-item.result in
    let p = c.self.inside.pending in
    let f = mark_raised p.from p.by in
    let at : slice_get blocks i ≡ Some b = read_at blocks i b c.block-item.is c.loop-block-test.true in
    c.in_ok-gather.ensures
    ∙ ap (λ ms. ms ++ touching c.args.ranges.now (map place_of (map f b))) c.loop-block.invariant
    ∙ sym (touching_blocks c.args.ranges.now f blocks i b at)

pub returns : goal.returns
returns c =
    let blocks = c.deref-block-items.result.now in
    let i = c.loop-block.block-index in
    let p = c.self.inside.pending in
    c.loop-block.invariant
    ∙ ap (λ bs. touching c.args.ranges.now (map place_of (map (mark_raised p.from p.by) (flat_map (λ b. b) bs)))) (take_all i blocks (omega arith) ∙ c.deref-block-items.ensures.value)
    ∙ ap (touching c.args.ranges.now) c.self.view_is
