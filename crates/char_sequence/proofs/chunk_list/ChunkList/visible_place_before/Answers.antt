use Rattle.std.proofs.Common.{◌≡◌, ◌+◌, ◌-◌, ◌<◌, List, Some, length, take, sym, ap, subst, ◌∙◌, arith, rules}
use Rattle.std.specs.List.{slice_get}
use Rattle.char_sequence.specs.declared.sequence.Element.{Element}
use Rattle.char_sequence.specs.Chunks.{joined}
use Rattle.char_sequence.specs.Visible.{visible_count, IsLastVisible}
use Rattle.char_sequence.proofs.Chunking.{here_at}
use Rattle.char_sequence.proofs.Joined.{start_after_chunk}
use Rattle.char_sequence.proofs.Nearest.{last_here, match_last, none_before, count_at_end}
use Rattle.char_sequence.proofs.chunk_list.ChunkList.visible_place_before.Goals.{then-chunk-len+in_default, else-chunk-len}
use Rattle.char_sequence.proofs.chunk_list.ChunkList.visible_place_before.Goals as goal

pub last_visible-requires : goal.last_visible-requires
last_visible-requires c =
    let cs = c.self.inside.chunks.items in
    let at = c.chunk_at-chunk.result in
    let found = c.chunk_at-chunk.ensures cs c.self.invariant.2 in
    let size : c.len.result ≡ length cs = search rules in
    let test = c.if-chunk-len.true in
    let low : at.position < length cs = omega (arith, size, test) in
    let next = start_after_chunk cs at.position c.index.result.now (here_at cs at.position c.index.result.now low c.index.ensures) in
    let ahead = found.ahead low in
    let start = found.start in
    let same = ap length c.as_slice-elements.ensures.value in
    omega (arith, next, ahead, start, same)

pub returns-in-Some : goal.returns-in-Some
returns-in-Some c =
    let cs = c.self.inside.chunks.items in
    let at = c.chunk_at-chunk.result in
    let found = c.chunk_at-chunk.ensures cs c.self.invariant.2 in
    let size : c.len.result ≡ length cs = search rules in
    let test = c.if-chunk-len.true in
    let low : at.position < length cs = omega (arith, size, test) in
    let chunk = c.index.result.now in
    let here : slice_get cs at.position ≡ Some chunk = here_at cs at.position chunk low c.index.ensures in
    let next = start_after_chunk cs at.position chunk here in
    let ahead = found.ahead low in
    let start = found.start in
    let reached = found.reached in
    subst (λ v. IsLastVisible (joined v.chunks) c.args.place (at.start + c.in-Some.at)) c.self.view_is
    (last_here cs at.position chunk at.start (c.args.place - at.start) c.args.place c.in-Some.at here start (omega (arith, reached)) (omega (arith, next, ahead, start))
    (subst (λ (z : List Element). IsLastVisible z (c.args.place - at.start) c.in-Some.at) c.as_slice-elements.ensures.value c.in-Some.ensures))

pub returns : goal.returns
returns c =
    let cs = c.self.inside.chunks.items in
    let at = c.chunk_at-chunk.result in
    let found = c.chunk_at-chunk.ensures cs c.self.invariant.2 in
    let size : c.len.result ≡ length cs = search rules in
    let same : visible_count (take c.args.place (joined cs)) ≡ visible_count (take at.start (joined cs)) =
    elim c.if-chunk-len.branch [
      | then-chunk-len+in_default w ↦
          let test = w.if-chunk-len.true in
          let low : at.position < length cs = omega (arith, size, test) in
          let chunk = w.index.result.now in
          let here : slice_get cs at.position ≡ Some chunk = here_at cs at.position chunk low w.index.ensures in
          let none = ap (λ es. visible_count (take (c.args.place - at.start) es)) (sym w.as_slice-elements.ensures.value) ∙ w.in_default.ensures {u = tt} in
          none_before cs at.position chunk at.start c.args.place here found.start found.reached (found.ahead low) none
      | else-chunk-len w ↦ let test = w.if-chunk-len.false in count_at_end cs at.position at.start c.args.place (omega (arith, size, test)) found.start found.reached
    ] in
    match_last (joined c.args.self.now.chunks) at.start c.args.place c.last_visible_before.result found.reached
    (subst (λ v. visible_count (take c.args.place (joined v.chunks)) ≡ visible_count (take at.start (joined v.chunks))) c.self.view_is same) c.last_visible_before.ensures
