use Rattle.std.proofs.Common.{◌≡◌, ◌+◌, sym, ap, subst, arith, ◌∙◌}
use Rattle.char_sequence.specs.Order.{IsAt}
use Rattle.char_sequence.specs.Chunks.{joined, start_of, IsSpotOf}
use Rattle.char_sequence.proofs.Joined.{start_within}
use Rattle.char_sequence.proofs.Chunking.{position_here, spot_place}
use Rattle.char_sequence.proofs.chunk_list.ChunkList.place_of.Goals as goal

pub length_before-requires : goal.length_before-requires
length_before-requires c =
    let spot : IsSpotOf c.args.self.now.chunks c.args.id c.in_ok-spot.spot.position c.in_ok-spot.spot.at = c.in_ok-spot.ensures.found in
    let same : c.self.inside.chunks.items ≡ c.args.self.now.chunks = ap (λ v. v.chunks) c.self.view_is in
    let low = position_here _ _ _ _ (subst (λ z. IsSpotOf z c.args.id c.in_ok-spot.spot.position c.in_ok-spot.spot.at) (sym same) spot) in
    (c.self.inside.chunks.items, c.self.invariant.2, omega (arith, low), c.self.invariant.0.few)

pub overflow_add-result : goal.overflow_add-result
overflow_add-result c =
    let low = c.in_ok-spot.ensures.within in
    let few = c.self.invariant.0.few in
    let start = c.length_before.ensures c.self.inside.chunks.items c.self.invariant.2 in
    let within = start_within c.self.inside.chunks.items c.in_ok-spot.spot.position in
    omega (arith, low, few, start, within)

pub returns : goal.returns
returns c =
    let spot : IsSpotOf c.args.self.now.chunks c.args.id c.in_ok-spot.spot.position c.in_ok-spot.spot.at = c.in_ok-spot.ensures.found in
    let same : c.self.inside.chunks.items ≡ c.args.self.now.chunks = ap (λ v. v.chunks) c.self.view_is in
    let start : c.length_before.result ≡ start_of c.args.self.now.chunks c.in_ok-spot.spot.position =
    c.length_before.ensures c.self.inside.chunks.items c.self.invariant.2 ∙ ap (λ z. start_of z c.in_ok-spot.spot.position) same in
    subst (λ n. IsAt (joined c.args.self.now.chunks) c.args.id (n + c.in_ok-spot.spot.at)) (sym start) (spot_place _ _ _ _ spot)
