use Rattle.std.proofs.Common.{◌<◌, ◌∷◌, length, set, subst, ap, arith}
use Rattle.std.specs.List.{flat_map}
use Rattle.std.specs.List.Sorted.{IsPermutation}
use Rattle.mark_anchors.proofs.Lists.{read_at}
use Rattle.mark_places.proofs.Joined.{set_more}
use Rattle.mark_places.proofs.places.add.Goals as goal

pub returns-clause-ok : goal.returns-clause-ok
returns-clause-ok c =
    let room = c.make_room.new.blocks.items in
    let at = c.block_at-at-2.result in
    let b = c.index_mut.result.now in
    let within : at < length room = omega (arith, c.block_at-at-2.ensures, ap length c.deref-2.ensures.value) in
    subst (λ ms. IsPermutation (c.args.mark.now ∷ ms) (flat_map (λ x. x) (set room at c.insert.new.self))) c.make_room.ensures.same
    (set_more room at b c.insert.new.self c.args.mark.now (read_at room at b c.index_mut.ensures.value within) c.in_ok-insert.ensures.ok)
