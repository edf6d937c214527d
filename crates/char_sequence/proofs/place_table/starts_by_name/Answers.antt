use Rattle.std.proofs.Common.{◌≡◌, ◌+◌, length, vec_len, slice_index, arith, rules, refl}
use Rattle.std.proofs.lemmas.Option.{slice_get_within, slice_get-get_or}
use Rattle.char_sequence.proofs.Joined.{start_after_chunk, start_within}
use Rattle.char_sequence.proofs.Chunking.{here_at}
use Rattle.char_sequence.proofs.PlaceTables.{laid_none, laid_more, laid_all}
use Rattle.char_sequence.proofs.place_table.starts_by_name.Goals as goal

pub loop-position-init : goal.loop-position-init
loop-position-init c = laid_none _ _ _ (search rules)

pub overflow_add-start : goal.overflow_add-start
overflow_add-start c =
    let cs = c.args.chunks.now in
    let i = c.loop-position.position in
    let inside = c.loop-position-test.true in
    let counted = c.requires.kept.1.1.indexed.counted in
    let here = here_at cs i c.index-chunks-position.result (omega (arith, inside, counted)) c.index-chunks-position.is in
    let next = start_after_chunk cs i c.index-chunks-position.result here in
    let whole = start_within cs (i + 1) in
    let was = c.loop-position.invariant.at in
    let len = c.len-start.ensures.value in
    let few = c.requires.kept.1.1.few in
    omega (arith, next, whole, was, len, few)

pub loop-position-preserved : goal.loop-position-preserved
loop-position-preserved c =
    let cs = c.args.chunks.now in
    let names = c.args.names.now in
    let i = c.loop-position.position in
    let inside = c.loop-position-test.true in
    let counted = c.requires.kept.1.1.indexed.counted in
    let here = here_at cs i c.index-chunks-position.result (omega (arith, inside, counted)) c.index-chunks-position.is in
    laid_more cs names c.requires.kept.0 c.requires.kept.1.0 i (slice_index names i) c.loop-position.start c.len-start.result c.index-chunks-position.result c.loop-position.starts.items _ c.requires.names.0 c.requires.kept.1.1 c.requires.names.1
    (slice_get-get_or names i 0 inside) here c.len-start.ensures.value refl c.loop-position.invariant

pub returns : goal.returns
returns c = laid_all _ _ _ _ _ c.loop-position-test.false c.loop-position.invariant

pub index_mut-requires : goal.index_mut-requires
index_mut-requires c =
    let are = c.requires.names.1 in
    let i = c.loop-position.position in
    let low = slice_get_within c.requires.names.0 _ i (are.found i (slice_index c.args.names.now i) (slice_get-get_or c.args.names.now i 0 c.loop-position-test.true)) in
    let as_many = are.as_many in
    let size = c.loop-position.invariant.size in
    let len : vec_len c.loop-position.starts ≡ length c.loop-position.starts.items = search rules in
    omega (arith, low, as_many, size, len)
