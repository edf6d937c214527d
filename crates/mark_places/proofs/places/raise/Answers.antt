use Rattle.std.proofs.Common.{◌≡◌, Some, All, ◌^◌, map, set, subst, sym, ap, ◌∙◌, arith}
use Rattle.std.specs.List.{slice_get, flat_map}
use Rattle.std.proofs.lemmas.List.Edits.{map_over_more}
use Rattle.mark_anchors.proofs.Lists.{read_at}
use Rattle.mark_places.specs.declared.ranked.RankedMark.{RankedMark}
use Rattle.mark_places.specs.Ranks.{mark_raised, IsBelow}
use Rattle.mark_places.proofs.Joined.{all_of_block, joined_map}
use Rattle.mark_places.proofs.Ranks.{read_over, mapped_all}
use Rattle.mark_places.proofs.places.raise.Goals as goal

pub raise-requires : goal.raise-requires
raise-requires c =
    let i = c.loop-block.block-index in
    let now = c.loop-block.blocks in
    let blocks = c.args.blocks.now in
    let b = c.block-item.result in
    let f = mark_raised c.args.shift.from c.args.shift.by in
    let P : RankedMark → Type 0 = λ m. IsBelow (2 ^ 31) (f m) in
    let read : slice_get now i ≡ Some b = read_at now i b c.block-item.is (omega arith) in
    let was : slice_get blocks i ≡ Some b = sym (read_over (map f) blocks now i c.loop-block-test.true c.loop-block.invariant) ∙ read in
    subst (All P) c.block-item.is (all_of_block P blocks i b c.requires was)

pub loop-block-preserved : goal.loop-block-preserved
loop-block-preserved c =
    let i = c.loop-block.block-index in
    let f = mark_raised c.args.shift.from c.args.shift.by in
    ap (set c.loop-block.blocks i) c.raise.ensures
    ∙ ap (λ b. set c.loop-block.blocks i (map f b)) (sym c.block-item.is)
    ∙ map_over_more (map f) c.args.blocks.now c.loop-block.blocks i c.block-item.result c.loop-block-test.true c.loop-block.invariant c.block-item.is

pub returns : goal.returns
returns c =
    let f = mark_raised c.args.shift.from c.args.shift.by in
    let blocks = c.args.blocks.now in
    ap (flat_map (λ b. b)) (mapped_all (map f) blocks c.loop-block.blocks c.loop-block.block-index c.loop-block-test.false c.loop-block.invariant) ∙ joined_map f blocks
