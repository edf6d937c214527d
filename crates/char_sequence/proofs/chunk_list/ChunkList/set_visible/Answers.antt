use Rattle.std.proofs.Common.{length, sym, subst, ap, arith}
use Rattle.char_sequence.specs.Chunks.{joined, IsSpotOf}
use Rattle.char_sequence.proofs.Bytes.{bytes_within, recounted}
use Rattle.char_sequence.proofs.VisibleText.{visible_most}
use Rattle.char_sequence.proofs.Chunking.{kept_marked, marked_joined, option_at, here_at, position_here}
use Rattle.char_sequence.proofs.chunk_list.ChunkList.set_visible.Goals as goal

pub overflow_sub-self : goal.overflow_sub-self
overflow_sub-self c =
    let s = c.unwrap-spot.result in
    let spot : IsSpotOf c.self.inside.chunks.items c.args.id s.position s.at =
    subst (λ v. IsSpotOf v.chunks c.args.id s.position s.at) (sym c.self.view_is) (option_at _ (λ z. IsSpotOf c.args.self.now.chunks c.args.id z.position z.at) c.spot_of.result s c.unwrap-spot.ensures c.spot_of.ensures.found) in
    let here = here_at _ _ c.index_mut-chunk.result.now (position_here _ _ _ _ spot) c.index_mut-chunk.ensures.value in
    let was = ap length c.text-was.ensures.value in
    let total = c.self.invariant.1 in
    omega (arith, was, total, bytes_within c.self.inside.chunks.items s.position c.index_mut-chunk.result.now here)

pub overflow_add-self : goal.overflow_add-self
overflow_add-self c =
    let total = c.self.invariant.1 in
    let few = c.self.invariant.0.few in
    let most = visible_most (joined c.self.inside.chunks.items) in
    let added = c.text.ensures.few in
    omega (arith, total, few, most, added)

pub recount-requires : goal.recount-requires
recount-requires c =
    let s = c.unwrap-spot.result in
    let spot : IsSpotOf c.self.inside.chunks.items c.args.id s.position s.at =
    subst (λ v. IsSpotOf v.chunks c.args.id s.position s.at) (sym c.self.view_is) (option_at _ (λ z. IsSpotOf c.args.self.now.chunks c.args.id z.position z.at) c.spot_of.result s c.unwrap-spot.ensures c.spot_of.ensures.found) in
    (c.self.inside.chunks.items, c.self.invariant.2, position_here _ _ _ _ spot)

pub invariant_of-self : goal.invariant_of-self
invariant_of-self c =
    let s = c.unwrap-spot.result in
    let spot : IsSpotOf c.self.inside.chunks.items c.args.id s.position s.at =
    subst (λ v. IsSpotOf v.chunks c.args.id s.position s.at) (sym c.self.view_is) (option_at _ (λ z. IsSpotOf c.args.self.now.chunks c.args.id z.position z.at) c.spot_of.result s c.unwrap-spot.ensures c.spot_of.ensures.found) in
    let here = here_at _ _ c.index_mut-chunk.result.now (position_here _ _ _ _ spot) c.index_mut-chunk.ensures.value in
    let was = ap length c.text-was.ensures.value in
    let without = ap length c.text.ensures.value in
    let bytes = recounted c.self.inside.chunks.items s.position c.index_mut-chunk.result.now c.set_visible.new.self c.self.inside.bytes here c.self.invariant.1 in
    (kept_marked c.args.visible _ _ _ _ _ _ c.args.id _ _ c.self.invariant.0 spot here c.set_visible.ensures, omega (arith, was, without, bytes), c.recount.ensures.counts _ c.self.invariant.2)

pub returns : goal.returns
returns c =
    let s = c.unwrap-spot.result in
    let spot : IsSpotOf c.self.inside.chunks.items c.args.id s.position s.at =
    subst (λ v. IsSpotOf v.chunks c.args.id s.position s.at) (sym c.self.view_is) (option_at _ (λ z. IsSpotOf c.args.self.now.chunks c.args.id z.position z.at) c.spot_of.result s c.unwrap-spot.ensures c.spot_of.ensures.found) in
    let here = here_at _ _ c.index_mut-chunk.result.now (position_here _ _ _ _ spot) c.index_mut-chunk.ensures.value in
    let r = marked_joined c.args.visible _ _ _ c.args.id _ _ spot here c.set_visible.ensures in
    rw (← c.self.view_is) r
