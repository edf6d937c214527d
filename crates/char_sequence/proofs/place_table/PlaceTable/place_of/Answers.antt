use Rattle.std.proofs.Common.{◌+◌, ◌<◌, ℕ, get_or, length, sym, subst, rules, arith}
use Rattle.std.proofs.lemmas.Option.{slice_get_within, slice_get-get_or}
use Rattle.char_sequence.specs.Order.{IsAt}
use Rattle.char_sequence.specs.Index.{HasId}
use Rattle.char_sequence.proofs.Joined.{start_within}
use Rattle.char_sequence.proofs.Chunking.{option_some, option_at}
use Rattle.char_sequence.proofs.Steps.{stands}
use Rattle.char_sequence.proofs.PlaceTables.{name_within, start_found, start_has, start_place}
use Rattle.char_sequence.proofs.place_table.PlaceTable.place_of.Goals as goal

pub returns-in_err-name-clause-found : goal.returns-in_err-name-clause-found
returns-in_err-name-clause-found c =
    rw c.from_residual.ensures
    (λ has. c.self.invariant.missing c.args.id (sym c.in_err-name.ensures) (subst (λ v. HasId v c.args.id) (sym c.self.view_is) has))

pub returns-in_err-name-clause-present : goal.returns-in_err-name-clause-present
returns-in_err-name-clause-present c =
    λ ops h.
    rw c.from_residual.ensures
    (λ p. c.self.invariant.missing c.args.id (sym c.in_err-name.ensures) (subst (λ v. HasId v c.args.id) (sym c.self.view_is) (stands ops _ h.text c.args.id p)))

pub index-chunk-requires : goal.index-chunk-requires
index-chunk-requires c =
    let low : c.in_ok-name.name < length c.self.inside.starts.items = name_within _ _ _ _ c.self.invariant c.args.id c.in_ok-name.name (sym c.in_ok-name.ensures) in
    search rules

pub bounds-self-inside-chunk : goal.bounds-self-inside-chunk
bounds-self-inside-chunk c =
    let found = start_found _ _ _ _ c.self.invariant c.args.id c.in_ok-name.name c.index-chunk.result.now (sym c.in_ok-name.ensures) c.index-chunk.ensures in
    slice_get_within _ _ found.chunk found.here

pub offset_bounds-self-inside-chunk : goal.offset_bounds-self-inside-chunk
offset_bounds-self-inside-chunk c =
    let found = start_found _ _ _ _ c.self.invariant c.args.id c.in_ok-name.name c.index-chunk.result.now (sym c.in_ok-name.ensures) c.index-chunk.ensures in
    let low : c.index-chunk.result.now.position < length c.self.inside.chunks.now = slice_get_within _ _ found.chunk found.here in
    search rules

pub unwrap-at-requires : goal.unwrap-at-requires
unwrap-at-requires c =
    let cs = c.self.inside.chunks.now in
    let at = c.index-chunk.result.now in
    let d = get_or cs at.position c.index-self-chunk.result in
    let found = start_found _ _ _ _ c.self.invariant c.args.id c.in_ok-name.name at (sym c.in_ok-name.ensures) c.index-chunk.ensures in
    let here = slice_get-get_or cs at.position c.index-self-chunk.result (slice_get_within _ _ found.chunk found.here) in
    option_some (HasId d c.args.id) (λ k. IsAt d c.args.id k) c.index_of.result c.index_of.ensures.found (start_has cs c.args.id at d found here)

pub overflow_add-result : goal.overflow_add-result
overflow_add-result c =
    let cs = c.self.inside.chunks.now in
    let at = c.index-chunk.result.now in
    let found = start_found _ _ _ _ c.self.invariant c.args.id c.in_ok-name.name at (sym c.in_ok-name.ensures) c.index-chunk.ensures in
    let low = option_at _ (λ (k : ℕ). k < 64) c.index_of.result c.unwrap-at.result c.unwrap-at.ensures c.index_of.ensures.within in
    let start = found.start in
    let within = start_within cs at.position in
    let few = c.self.invariant.few in
    omega (arith, low, start, within, few)

pub returns-clause-found : goal.returns-clause-found
returns-clause-found c =
    let cs = c.self.inside.chunks.now in
    let at = c.index-chunk.result.now in
    let d = get_or cs at.position c.index-self-chunk.result in
    let found = start_found _ _ _ _ c.self.invariant c.args.id c.in_ok-name.name at (sym c.in_ok-name.ensures) c.index-chunk.ensures in
    let here = slice_get-get_or cs at.position c.index-self-chunk.result (slice_get_within _ _ found.chunk found.here) in
    let is = option_at _ (λ k. IsAt d c.args.id k) c.index_of.result c.unwrap-at.result c.unwrap-at.ensures c.index_of.ensures.found in
    subst (λ v. IsAt v c.args.id (at.start + c.unwrap-at.result)) c.self.view_is (start_place cs c.args.id at d c.unwrap-at.result found here is)

pub returns-clause-present : goal.returns-clause-present
returns-clause-present c =
    λ ops h.
    let cs = c.self.inside.chunks.now in
    let at = c.index-chunk.result.now in
    let d = get_or cs at.position c.index-self-chunk.result in
    let found = start_found _ _ _ _ c.self.invariant c.args.id c.in_ok-name.name at (sym c.in_ok-name.ensures) c.index-chunk.ensures in
    let here = slice_get-get_or cs at.position c.index-self-chunk.result (slice_get_within _ _ found.chunk found.here) in
    let is = option_at _ (λ k. IsAt d c.args.id k) c.index_of.result c.unwrap-at.result c.unwrap-at.ensures c.index_of.ensures.found in
    subst (λ v. IsAt v c.args.id (at.start + c.unwrap-at.result)) c.self.view_is (start_place cs c.args.id at d c.unwrap-at.result found here is)
