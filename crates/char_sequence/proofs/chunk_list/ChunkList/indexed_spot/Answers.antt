use Rattle.std.proofs.Common.{◌≡◌, ◌<◌, Some, length, sym, subst, rules, ◌∙◌}
use Rattle.std.specs.List.{slice_get}
use Rattle.std.proofs.lemmas.Option.{same_Some, slice_get_within}
use Rattle.char_sequence.specs.Order.{IsAt}
use Rattle.char_sequence.specs.Index.{HasId}
use Rattle.char_sequence.specs.Chunks.{joined, IsSpotOf}
use Rattle.char_sequence.proofs.Chunking.{not_indexed_id, named_chunk, option_some, option_at, here_at}
use Rattle.char_sequence.proofs.chunk_list.ChunkList.indexed_spot.Goals as goal

pub returns-in_err-name-clause-found : goal.returns-in_err-name-clause-found
returns-in_err-name-clause-found c =
    rw c.from_residual.ensures
    (λ has. not_indexed_id _ _ _ c.self.invariant.0.indexed c.args.id (sym c.in_err-name.ensures) (subst (λ v. HasId (joined v.chunks) c.args.id) (sym c.self.view_is) has))

pub position_of-position-requires : goal.position_of-position-requires
position_of-position-requires c =
    let r = c.self.invariant.0.indexed.behind c.args.id c.in_ok-name.name (sym c.in_ok-name.ensures) in
    (r.0, r.1.1)

pub index-requires : goal.index-requires
index-requires c =
    let r = named_chunk _ _ _ c.self.invariant.0.indexed c.args.id c.in_ok-name.name c.position_of-position.result (sym c.in_ok-name.ensures) c.position_of-position.ensures in
    let low : c.position_of-position.result < length c.self.inside.chunks.items = slice_get_within _ _ r.0 r.1 in
    search rules

pub unwrap-at-requires : goal.unwrap-at-requires
unwrap-at-requires c =
    let cs = c.self.inside.chunks.items in
    let p = c.position_of-position.result in
    let r = named_chunk _ _ _ c.self.invariant.0.indexed c.args.id c.in_ok-name.name p (sym c.in_ok-name.ensures) c.position_of-position.ensures in
    let here = here_at cs p c.index.result.now (slice_get_within _ _ r.0 r.1) c.index.ensures in
    let has : HasId c.index.result.now c.args.id = subst (λ z. HasId z c.args.id) (same_Some r.0 _ (sym r.1 ∙ here)) r.2 in
    option_some (HasId c.index.result.now c.args.id) (λ k. IsAt c.index.result.now c.args.id k) c.index_of.result c.index_of.ensures.found has

pub returns-clause-found : goal.returns-clause-found
returns-clause-found c =
    let cs = c.self.inside.chunks.items in
    let p = c.position_of-position.result in
    let r = named_chunk _ _ _ c.self.invariant.0.indexed c.args.id c.in_ok-name.name p (sym c.in_ok-name.ensures) c.position_of-position.ensures in
    let here : slice_get cs p ≡ Some c.index.result.now = here_at cs p c.index.result.now (slice_get_within _ _ r.0 r.1) c.index.ensures in
    let spot : IsSpotOf cs c.args.id p c.unwrap-at.result = record {
      chunk = c.index.result.now;
      here = here;
      has = option_at _ (λ k. IsAt c.index.result.now c.args.id k) c.index_of.result c.unwrap-at.result c.unwrap-at.ensures c.index_of.ensures.found;
    } in
    subst (λ v. IsSpotOf v.chunks c.args.id p c.unwrap-at.result) c.self.view_is spot
