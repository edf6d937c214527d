use Rattle.std.proofs.Common.{◌≡◌, ◌+◌, ◌≤◌, Some, length, set, sym, ap, ◌∙◌, arith, rules, vec_len, subst}
use Rattle.std.specs.List.{slice_get}
use Rattle.std.proofs.lemmas.Option.{same_Some, slice_get_within}
use Rattle.char_sequence.specs.Chunks.{joined, IsKept}
use Rattle.char_sequence.specs.Named.{name_of, IsAboveAll}
use Rattle.char_sequence.specs.RunElements.{elements_from, insert_all}
use Rattle.char_sequence.proofs.Chunking.{above_indexed, here_at}
use Rattle.char_sequence.proofs.Bytes.{bytes_within, recounted}
use Rattle.char_sequence.proofs.RunSteps.{kept_run}
use Rattle.char_sequence.proofs.VisibleText.{visible_most}
use Rattle.char_sequence.proofs.chunk_list.ChunkList.put_run.Goals as goal

pub enter_run-requires-clause-above : goal.enter_run-requires-clause-above
enter_run-requires-clause-above c =
    above_indexed _ _ _ c.self.invariant.0.indexed c.args.id (subst (λ v. IsAboveAll (joined v.chunks) c.args.id) (sym c.self.view_is) c.requires.above)

pub index_mut-chunk-requires : goal.index_mut-chunk-requires
index_mut-chunk-requires c =
    let same = ap (λ v. v.chunks) c.self.view_is in
    let low = slice_get_within c.self.inside.chunks.items c.args.spot.position _ (ap (λ z. slice_get z c.args.spot.position) same ∙ c.requires.there.1) in
    let size : vec_len c.self.inside.chunks ≡ length c.self.inside.chunks.items = search rules in
    omega (arith, low, size)

pub insert_run-requires-clause-within : goal.insert_run-requires-clause-within
insert_run-requires-clause-within c =
    let same = ap (λ v. v.chunks) c.self.view_is in
    let there = c.requires.there in
    let old : slice_get c.self.inside.chunks.items c.args.spot.position ≡ Some there.0 = ap (λ z. slice_get z c.args.spot.position) same ∙ there.1 in
    let here = here_at c.self.inside.chunks.items c.args.spot.position c.index_mut-chunk.result.now (slice_get_within c.self.inside.chunks.items c.args.spot.position _ old) c.index_mut-chunk.ensures.value in
    let one = same_Some c.index_mut-chunk.result.now _ (sym here ∙ old) in
    subst (λ z. c.args.spot.at ≤ length z) (sym one) there.3

pub insert_run-requires-clause-room : goal.insert_run-requires-clause-room
insert_run-requires-clause-room c =
    let same = ap (λ v. v.chunks) c.self.view_is in
    let there = c.requires.there in
    let old : slice_get c.self.inside.chunks.items c.args.spot.position ≡ Some there.0 = ap (λ z. slice_get z c.args.spot.position) same ∙ there.1 in
    let here = here_at c.self.inside.chunks.items c.args.spot.position c.index_mut-chunk.result.now (slice_get_within c.self.inside.chunks.items c.args.spot.position _ old) c.index_mut-chunk.ensures.value in
    let one = same_Some c.index_mut-chunk.result.now _ (sym here ∙ old) in
    subst (λ z. length z + length c.args.characters.now ≤ 64) (sym one) there.2

pub overflow_sub-self : goal.overflow_sub-self
overflow_sub-self c =
    let same = ap (λ v. v.chunks) c.self.view_is in
    let there = c.requires.there in
    let cs = c.self.inside.chunks.items in
    let old : slice_get cs c.args.spot.position ≡ Some there.0 = ap (λ z. slice_get z c.args.spot.position) same ∙ there.1 in
    let here = here_at cs c.args.spot.position c.index_mut-chunk.result.now (slice_get_within cs c.args.spot.position _ old) c.index_mut-chunk.ensures.value in
    let before = ap length c.text-before.ensures.value in
    let total = c.self.invariant.1 in
    omega (arith, before, total, bytes_within cs c.args.spot.position c.index_mut-chunk.result.now here)

pub overflow_add-self : goal.overflow_add-self
overflow_add-self c =
    let total = c.self.invariant.1 in
    let few = c.self.invariant.0.few in
    let most = visible_most (joined c.self.inside.chunks.items) in
    let added = c.text.ensures.few in
    omega (arith, total, few, most, added)

pub recount-requires : goal.recount-requires
recount-requires c =
    let same = ap (λ v. v.chunks) c.self.view_is in
    let there = c.requires.there in
    let old : slice_get c.self.inside.chunks.items c.args.spot.position ≡ Some there.0 = ap (λ z. slice_get z c.args.spot.position) same ∙ there.1 in
    (c.self.inside.chunks.items, c.self.invariant.2, slice_get_within c.self.inside.chunks.items c.args.spot.position _ old)

pub invariant_of-self-2 : goal.invariant_of-self-2
invariant_of-self-2 c =
    let same = ap (λ v. v.chunks) c.self.view_is in
    let there = c.requires.there in
    let cs = c.self.inside.chunks.items in
    let old : slice_get cs c.args.spot.position ≡ Some there.0 = ap (λ z. slice_get z c.args.spot.position) same ∙ there.1 in
    let low = slice_get_within cs c.args.spot.position _ old in
    let here = here_at cs c.args.spot.position c.index_mut-chunk.result.now low c.index_mut-chunk.ensures.value in
    let name = c.name_at-name.ensures in
    let one = same_Some c.index_mut-chunk.result.now _ (sym here ∙ old) in
    let within : c.args.spot.at ≤ length c.index_mut-chunk.result.now = subst (λ z. c.args.spot.at ≤ length z) (sym one) there.3 in
    let few : length (joined cs) + length c.args.characters.now ≤ 262144 = subst (λ z. length (joined z) + length c.args.characters.now ≤ 262144) (sym same) c.requires.few in
    let before = ap length c.text-before.ensures.value in
    let after = ap length c.text.ensures.value in
    let bytes = recounted c.self.inside.chunks.items c.args.spot.position c.index_mut-chunk.result.now c.insert_run.new.self c.self.inside.bytes here c.self.invariant.1 in
    let kept = subst (λ z. IsKept (set cs c.args.spot.position z) c.self.inside.names.names (name_of c.enter_run.new.index) (c.self.inside.count + length c.args.characters.now)) (sym c.insert_run.ensures)
    (kept_run c.args.characters.now cs _ _ _ _ c.args.spot.at c.name_at-name.result _ _ c.args.id c.self.invariant.0 here name within few c.in_ok-enter_run.ensures.entered) in
    (kept, omega (arith, before, after, bytes), c.recount.ensures.counts _ c.self.invariant.2)

pub returns-clause-ok : goal.returns-clause-ok
returns-clause-ok c =
    λ chunk g.
    let same = ap (λ v. v.chunks) c.self.view_is in
    let cs = c.self.inside.chunks.items in
    let added = elements_from c.args.id c.args.characters.now in
    let old : slice_get cs c.args.spot.position ≡ Some chunk = ap (λ z. slice_get z c.args.spot.position) same ∙ g in
    let here = here_at cs c.args.spot.position c.index_mut-chunk.result.now (slice_get_within cs c.args.spot.position _ old) c.index_mut-chunk.ensures.value in
    let one = same_Some c.index_mut-chunk.result.now _ (sym here ∙ old) in
    ap (λ z. set cs c.args.spot.position z) (c.insert_run.ensures ∙ ap (λ z. insert_all z c.args.spot.at added) one) ∙ ap (λ z. set z c.args.spot.position (insert_all chunk c.args.spot.at added)) same
