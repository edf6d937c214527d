use Rattle.std.proofs.Common.{◌≡◌, ◌-◌, ◌<◌, length, take, sym, ap, ◌∙◌, arith, rules}
use Rattle.char_sequence.specs.Chunks.{joined}
use Rattle.char_sequence.specs.Visible.{visible_count}
use Rattle.char_sequence.proofs.Chunking.{here_at}
use Rattle.char_sequence.proofs.Joined.{start_after_chunk}
use Rattle.char_sequence.proofs.Counts.{visible_to, visible_all}
use Rattle.char_sequence.proofs.chunk_list.ChunkList.visible_before.Goals as goal

pub returns-then-last-len : goal.returns-then-last-len
returns-then-last-len c =
    let cs = c.self.inside.chunks.items in
    let at = c.chunk_at-last.result in
    let found = c.chunk_at-last.ensures cs c.self.invariant.2 in
    let size : c.len.result ≡ length cs = search rules in
    let end = c.if-last-len.true in
    let start = found.start in
    let reached = found.reached in
    c.shown_before-shown.ensures cs c.self.invariant.2
    ∙ sym (visible_all cs at.position c.args.place (omega (arith, size, end)) (omega (arith, start, reached)))
    ∙ ap (λ v. visible_count (take c.args.place (joined v.chunks))) c.self.view_is

pub split_at-requires : goal.split_at-requires
split_at-requires c =
    let cs = c.self.inside.chunks.items in
    let at = c.chunk_at-last.result in
    let found = c.chunk_at-last.ensures cs c.self.invariant.2 in
    let size : c.len.result ≡ length cs = search rules in
    let other = c.if-last-len.false in
    let within = found.within in
    let low : at.position < length cs = omega (arith, size, other, within) in
    let next = start_after_chunk cs at.position c.index.result.now (here_at cs at.position c.index.result.now low c.index.ensures) in
    let ahead = found.ahead low in
    let start = found.start in
    let same = ap length c.as_slice.ensures.value in
    omega (arith, next, ahead, start, same)

pub returns : goal.returns
returns c =
    let cs = c.self.inside.chunks.items in
    let at = c.chunk_at-last.result in
    let found = c.chunk_at-last.ensures cs c.self.invariant.2 in
    let size : c.len.result ≡ length cs = search rules in
    let other = c.if-last-len.false in
    let within = found.within in
    let low : at.position < length cs = omega (arith, size, other, within) in
    let here = here_at cs at.position c.index.result.now low c.index.ensures in
    let start = found.start in
    let reached = found.reached in
    let all = visible_to cs at.position c.args.place c.index.result.now here (omega (arith, start, reached)) (found.ahead low) in
    let front = c.count_visible.ensures
    ∙ ap visible_count (c.split_at.ensures.front ∙ ap (take (c.args.place - at.start)) c.as_slice.ensures.value)
    ∙ ap (λ n. visible_count (take (c.args.place - n) c.index.result.now)) start in
    let shown = c.shown_before-shown.ensures cs c.self.invariant.2 in
    let view = ap (λ v. visible_count (take c.args.place (joined v.chunks))) c.self.view_is in
    omega (arith, all, front, shown, view)
