use Rattle.std.proofs.Common.{◌≡◌, ◌<◌, ◌≤◌, Some, length, set, sym, ap, ◌∙◌, arith, subst}
use Rattle.std.specs.List.{slice_get, insert}
use Rattle.std.proofs.lemmas.Option.{same_Some, slice_get_within}
use Rattle.char_sequence.specs.Chunks.{joined}
use Rattle.char_sequence.specs.Named.{IsAboveAll}
use Rattle.char_sequence.proofs.Chunking.{kept_put, kept_same, above_indexed, here_at}
use Rattle.char_sequence.proofs.Bytes.{bytes_within, recounted}
use Rattle.char_sequence.proofs.VisibleText.{visible_most}
use Rattle.char_sequence.proofs.chunk_list.ChunkList.put_in.Goals as goal

pub enter-requires-clause-above : goal.enter-requires-clause-above
enter-requires-clause-above c =
    above_indexed _ _ _ c.self.invariant.0.indexed c.args.element.id (subst (λ v. IsAboveAll (joined v.chunks) c.args.element.id) (sym c.self.view_is) c.requires.above)

pub invariant_of-self : goal.invariant_of-self
invariant_of-self c = (kept_same _ _ _ _ _ c.self.invariant.0 c.in_err-enter.ensures.unchanged, c.self.invariant.1, c.self.invariant.2)

pub overflow_sub-self : goal.overflow_sub-self
overflow_sub-self c =
    let same = ap (λ v. v.chunks) c.self.view_is in
    let there = c.requires.there in
    let cs = c.self.inside.chunks.items in
    let old : slice_get cs c.args.spot.position ≡ Some there.0 = ap (λ z. slice_get z c.args.spot.position) same ∙ there.1 in
    let here = here_at cs c.args.spot.position c.index_mut-chunk.result.now (slice_get_within cs c.args.spot.position _ old) c.index_mut-chunk.ensures.value in
    let before = ap length c.text-before.ensures.value in
    let total = c.self.invariant.1 in
    omega (arith, before, total, bytes_within cs c.args.spot.position c.index_mut-chunk.result.now here)

pub overflow_add-self : goal.overflow_add-self
overflow_add-self c =
    let total = c.self.invariant.1 in
    let few = c.self.invariant.0.few in
    let most = visible_most (joined c.self.inside.chunks.items) in
    let added = c.text.ensures.few in
    omega (arith, total, few, most, added)

pub recount-requires : goal.recount-requires
recount-requires c =
    let same = ap (λ v. v.chunks) c.self.view_is in
    let there = c.requires.there in
    let old : slice_get c.self.inside.chunks.items c.args.spot.position ≡ Some there.0 = ap (λ z. slice_get z c.args.spot.position) same ∙ there.1 in
    (c.self.inside.chunks.items, c.self.invariant.2, slice_get_within c.self.inside.chunks.items c.args.spot.position _ old)

pub invariant_of-self-2 : goal.invariant_of-self-2
invariant_of-self-2 c =
    let same = ap (λ v. v.chunks) c.self.view_is in
    let there = c.requires.there in
    let old : slice_get c.self.inside.chunks.items c.args.spot.position ≡ Some there.0 = ap (λ z. slice_get z c.args.spot.position) same ∙ there.1 in
    let low = slice_get_within c.self.inside.chunks.items c.args.spot.position _ old in
    let here = here_at c.self.inside.chunks.items c.args.spot.position c.index_mut-chunk.result.now low c.index_mut-chunk.ensures.value in
    let name = c.name_at-name.ensures in
    let one = same_Some c.index_mut-chunk.result.now _ (sym here ∙ old) in
    let within : c.args.spot.at ≤ length c.index_mut-chunk.result.now = subst (λ z. c.args.spot.at ≤ length z) (sym one) there.3 in
    let few : length (joined c.self.inside.chunks.items) < 262144 = subst (λ z. length (joined z) < 262144) (sym same) c.requires.few in
    let before = ap length c.text-before.ensures.value in
    let after = ap length c.text.ensures.value in
    let bytes = recounted c.self.inside.chunks.items c.args.spot.position c.index_mut-chunk.result.now c.insert.new.self c.self.inside.bytes here c.self.invariant.1 in
    let kept = kept_put _ _ _ _ _ c.args.spot.at c.name_at-name.result _ _ _ c.args.element c.self.invariant.0 here name within c.insert.ensures few c.in_ok-enter.ensures.named c.in_ok-enter.ensures.kept in
    (kept, omega (arith, before, after, bytes), c.recount.ensures.counts _ c.self.invariant.2)

pub returns-clause-ok : goal.returns-clause-ok
returns-clause-ok c =
    λ chunk g.
    let same = ap (λ v. v.chunks) c.self.view_is in
    let old : slice_get c.self.inside.chunks.items c.args.spot.position ≡ Some chunk = ap (λ z. slice_get z c.args.spot.position) same ∙ g in
    let here = here_at c.self.inside.chunks.items c.args.spot.position c.index_mut-chunk.result.now (slice_get_within c.self.inside.chunks.items c.args.spot.position _ old) c.index_mut-chunk.ensures.value in
    let one = same_Some c.index_mut-chunk.result.now _ (sym here ∙ old) in
    ap (λ z. set c.self.inside.chunks.items c.args.spot.position z) (c.insert.ensures ∙ ap (λ z. insert z c.args.spot.at c.args.element) one) ∙ ap (λ z. set z c.args.spot.position (insert chunk c.args.spot.at c.args.element)) same
