use Rattle.std.proofs.Common.{◌+◌, ◌-◌, slice_range, ap, sym, refl, ◌∙◌, arith}
use Rattle.char_sequence.specs.Visible.{visible_count}
use Rattle.char_sequence.proofs.Joined.{start_after_chunk, start_within}
use Rattle.char_sequence.proofs.Chunking.{here_at}
use Rattle.char_sequence.proofs.Ranges.{count_none, count_more}
use Rattle.char_sequence.proofs.counting.count_of_range.Goals as goal

pub loop-chunk-init : goal.loop-chunk-init
loop-chunk-init c = (refl, sym (count_none c.args.from c.args.to), omega arith)

pub overflow_add-count : goal.overflow_add-count
overflow_add-count c =
    let cs = c.args.chunks.now in
    let i = c.loop-chunk.chunk-index in
    let here = here_at cs i c.chunk-item.result c.loop-chunk-test.true c.chunk-item.is in
    let next = start_after_chunk cs i _ here in
    let within = start_within cs (i + 1) in
    let few = c.requires.few in
    let start = c.loop-chunk.invariant.0 in
    let most = c.loop-chunk.invariant.2 in
    let more = c.count_within-count.ensures.limit in
    omega (arith, next, within, few, start, most, more)

pub overflow_add-start : goal.overflow_add-start
overflow_add-start c =
    let cs = c.args.chunks.now in
    let i = c.loop-chunk.chunk-index in
    let here = here_at cs i c.chunk-item.result c.loop-chunk-test.true c.chunk-item.is in
    let next = start_after_chunk cs i _ here in
    let within = start_within cs (i + 1) in
    let few = c.requires.few in
    let start = c.loop-chunk.invariant.0 in
    let len = c.len-start.ensures.value in
    omega (arith, next, within, few, start, len)

pub loop-chunk-preserved : goal.loop-chunk-preserved
loop-chunk-preserved c =
    let cs = c.args.chunks.now in
    let i = c.loop-chunk.chunk-index in
    let chunk = c.chunk-item.result in
    let here = here_at cs i chunk c.loop-chunk-test.true c.chunk-item.is in
    let next = start_after_chunk cs i chunk here in
    let start = c.loop-chunk.invariant.0 in
    let most = c.loop-chunk.invariant.2 in
    let len = c.len-start.ensures.value in
    let limit = c.count_within-count.ensures.limit in
    let more = count_more cs i c.args.from c.args.to chunk here c.requires.order in
    let was = c.loop-chunk.invariant.1 in
    let part = c.count_within-count.ensures.value ∙ ap (λ n. visible_count (slice_range chunk (c.args.from - n) (c.args.to - n))) start in
    (omega (arith, next, start, len), omega (arith, more, was, part), omega (arith, most, len, limit))
