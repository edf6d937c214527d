use Rattle.std.proofs.Common.{◌≡◌, ◌+◌, ◌-◌, ◌<◌, List, Some, length, take, drop, sym, ap, subst, ◌∙◌, arith, rules}
use Rattle.std.specs.List.{slice_get}
use Rattle.std.proofs.lemmas.Option.{slice_get_within}
use Rattle.char_sequence.specs.declared.sequence.Element.{Element}
use Rattle.char_sequence.specs.Chunks.{joined, start_of}
use Rattle.char_sequence.specs.Visible.{visible_count, IsFirstVisible}
use Rattle.char_sequence.proofs.Chunking.{here_at}
use Rattle.char_sequence.proofs.Joined.{start_after_chunk, start_within}
use Rattle.char_sequence.proofs.Nearest.{first_here, match_first, none_behind}
use Rattle.char_sequence.proofs.chunk_list.ChunkList.visible_place_from.Goals as goal

pub first_visible-requires : goal.first_visible-requires
first_visible-requires c =
    let cs = c.self.inside.chunks.items in
    let at = c.chunk_at-chunk.result in
    let found = c.chunk_at-chunk.ensures cs c.self.invariant.2 in
    let size : c.len.result ≡ length cs = search rules in
    let other = c.if-chunk-len.false in
    let within = found.within in
    let low : at.position < length cs = omega (arith, size, other, within) in
    let next = start_after_chunk cs at.position c.index.result.now (here_at cs at.position c.index.result.now low c.index.ensures) in
    let ahead = found.ahead low in
    let start = found.start in
    let same = ap length c.as_slice-elements.ensures.value in
    omega (arith, next, ahead, start, same)

pub overflow_add-result : goal.overflow_add-result
overflow_add-result c =
    let cs = c.self.inside.chunks.items in
    let at = c.chunk_at-chunk.result in
    let found = c.chunk_at-chunk.ensures cs c.self.invariant.2 in
    let start = found.start in
    let within = start_within cs at.position in
    let few = c.self.invariant.0.few in
    let first = c.in-Some.ensures in
    let less = slice_get_within c.as_slice-elements.result.now c.in-Some.at first.visible.0 first.visible.1 in
    let short = ap length c.as_slice-elements.ensures.value in
    let most = c.as_slice-elements.ensures.few in
    omega (arith, start, within, few, less, short, most)

pub returns-in-Some : goal.returns-in-Some
returns-in-Some c =
    let cs = c.self.inside.chunks.items in
    let at = c.chunk_at-chunk.result in
    let found = c.chunk_at-chunk.ensures cs c.self.invariant.2 in
    let size : c.len.result ≡ length cs = search rules in
    let other = c.if-chunk-len.false in
    let within = found.within in
    let low : at.position < length cs = omega (arith, size, other, within) in
    let chunk = c.index.result.now in
    let here : slice_get cs at.position ≡ Some chunk = here_at cs at.position chunk low c.index.ensures in
    let next = start_after_chunk cs at.position chunk here in
    let ahead = found.ahead low in
    let start = found.start in
    let reached = found.reached in
    subst (λ v. IsFirstVisible (joined v.chunks) c.args.place (at.start + c.in-Some.at)) c.self.view_is
    (first_here cs at.position chunk at.start (c.args.place - at.start) c.args.place c.in-Some.at here start (omega (arith, reached)) (omega (arith, next, ahead, start))
    (subst (λ (z : List Element). IsFirstVisible z (c.args.place - at.start) c.in-Some.at) c.as_slice-elements.ensures.value c.in-Some.ensures))

pub first_visible_from-requires : goal.first_visible_from-requires
first_visible_from-requires c =
    let cs = c.self.inside.chunks.items in
    let at = c.chunk_at-chunk.result in
    let found = c.chunk_at-chunk.ensures cs c.self.invariant.2 in
    let size : c.len.result ≡ length cs = search rules in
    let other = c.if-chunk-len.false in
    let within = found.within in
    let low : at.position < length cs = omega (arith, size, other, within) in
    let next = start_after_chunk cs at.position c.index.result.now (here_at cs at.position c.index.result.now low c.index.ensures) in
    let start = found.start in
    let same = ap length c.as_slice-elements.ensures.value in
    let many = ap (λ v. length v.chunks) c.self.view_is in
    let view = ap (λ v. start_of v.chunks (at.position + 1)) c.self.view_is in
    (omega (arith, low, many), omega (arith, next, start, same, view))

pub returns : goal.returns
returns c =
    let cs = c.self.inside.chunks.items in
    let at = c.chunk_at-chunk.result in
    let found = c.chunk_at-chunk.ensures cs c.self.invariant.2 in
    let size : c.len.result ≡ length cs = search rules in
    let other = c.if-chunk-len.false in
    let within = found.within in
    let low : at.position < length cs = omega (arith, size, other, within) in
    let chunk = c.index.result.now in
    let here : slice_get cs at.position ≡ Some chunk = here_at cs at.position chunk low c.index.ensures in
    let next = start_after_chunk cs at.position chunk here in
    let ahead = found.ahead low in
    let start = found.start in
    let same = ap length c.as_slice-elements.ensures.value in
    let far = at.start + length c.as_slice-elements.result.now in
    let end : far ≡ at.start + length chunk = omega (arith, same) in
    let empty = ap (λ es. visible_count (drop (c.args.place - at.start) es)) (sym c.as_slice-elements.ensures.value) ∙ c.in_default.ensures {u = tt} in
    let none = none_behind cs at.position chunk at.start c.args.place far here start found.reached ahead end empty in
    match_first (joined c.args.self.now.chunks) c.args.place far c.first_visible_from.result (omega (arith, next, ahead, start, end))
    (subst (λ v. visible_count (take far (joined v.chunks)) ≡ visible_count (take c.args.place (joined v.chunks))) c.self.view_is none) c.first_visible_from.ensures
