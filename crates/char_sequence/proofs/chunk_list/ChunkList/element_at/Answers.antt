use Rattle.std.proofs.Common.{◌≡◌, ◌-◌, ◌<◌, length, get_or, ap, ◌∙◌, arith, rules}
use Rattle.std.specs.List.{slice_get}
use Rattle.char_sequence.specs.Chunks.{joined}
use Rattle.char_sequence.proofs.Chunking.{here_at}
use Rattle.char_sequence.proofs.Joined.{element_in, start_after_chunk}
use Rattle.char_sequence.proofs.chunk_list.ChunkList.element_at.Goals as goal

pub bounds-as_slice-place : goal.bounds-as_slice-place
bounds-as_slice-place c =
    let cs = c.self.inside.chunks.items in
    let at = c.chunk_at-found.result in
    let found = c.chunk_at-found.ensures cs c.self.invariant.2 in
    let size : c.len.result ≡ length cs = search rules in
    let other = c.if-found-len.false in
    let inside = found.within in
    let low : at.position < length cs = omega (arith, size, other, inside) in
    let next = start_after_chunk cs at.position c.index.result.now (here_at cs at.position c.index.result.now low c.index.ensures) in
    let ahead = found.ahead low in
    let start = found.start in
    let reached = found.reached in
    let same = ap length c.as_slice.ensures.value in
    omega (arith, next, ahead, start, same, reached)

pub offset_bounds-as_slice-place : goal.offset_bounds-as_slice-place
offset_bounds-as_slice-place c =
    let within = bounds-as_slice-place c in
    omega (arith, within, c.as_slice.type_inv.1)

pub returns : goal.returns
returns c =
    let cs = c.self.inside.chunks.items in
    let at = c.chunk_at-found.result in
    let found = c.chunk_at-found.ensures cs c.self.invariant.2 in
    let size : c.len.result ≡ length cs = search rules in
    let other = c.if-found-len.false in
    let inside = found.within in
    let low : at.position < length cs = omega (arith, size, other, inside) in
    let here = here_at cs at.position c.index.result.now low c.index.ensures in
    let next = start_after_chunk cs at.position c.index.result.now here in
    let ahead = found.ahead low in
    let start = found.start in
    let reached = found.reached in
    let d = c.index.result.now in
    let e = c.index-as_slice-place.result in
    let is : e ≡ get_or d (c.args.place - at.start) e = c.index-as_slice-place.is ∙ ap (λ z. get_or z (c.args.place - at.start) e) c.as_slice.ensures.value in
    let at_e = here_at d (c.args.place - at.start) e (omega (arith, next, ahead, start, reached)) is in
    element_in cs at.position at.start c.args.place d e here start reached at_e ∙ ap (λ v. slice_get (joined v.chunks) c.args.place) c.self.view_is
