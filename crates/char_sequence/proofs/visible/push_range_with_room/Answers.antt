use Rattle.std.proofs.Common.{◌≡◌, ◌+◌, ◌-◌, ◌++◌, length, take, slice_range, string_bytes, ap, sym, refl, ◌∙◌, arith, rules, append_assoc, append-nil, length-append}
use Rattle.std.specs.String.{string_len}
use Rattle.char_sequence.specs.Chunks.{joined, start_of}
use Rattle.char_sequence.specs.Visible.{visible_text}
use Rattle.char_sequence.proofs.Joined.{start_after_chunk, start_within}
use Rattle.char_sequence.proofs.Chunking.{here_at}
use Rattle.char_sequence.proofs.Ranges.{range_none, range_more, range_front}
use Rattle.char_sequence.proofs.visible.push_range_with_room.Goals as goal

pub loop-chunk-init : goal.loop-chunk-init
loop-chunk-init c =
    (refl, sym (ap (λ bs. string_bytes c.args.text.now ++ bs) (range_none c.args.from c.args.to) ∙ append-nil (string_bytes c.args.text.now)), omega arith)

pub push_within-requires-clause-room : goal.push_within-requires-clause-room
push_within-requires-clause-room c =
    let cs = c.args.chunks.now in
    let i = c.loop-chunk.chunk-index in
    let chunk = c.chunk-item.result in
    let here = here_at cs i chunk c.loop-chunk-test.true c.chunk-item.is in
    let front = visible_text (slice_range (joined (take i cs)) c.args.from c.args.to) in
    let more = ap length (range_more cs i c.args.from c.args.to chunk here c.requires.order)
    ∙ length-append front (visible_text (slice_range chunk (c.args.from - start_of cs i) (c.args.to - start_of cs i))) in
    let same = ap (λ n. length (visible_text (slice_range chunk (c.args.from - n) (c.args.to - n)))) c.loop-chunk.invariant.0 in
    let whole = range_front cs (i + 1) c.args.from c.args.to c.requires.order in
    let was : string_len c.args.text.now ≡ length (string_bytes c.args.text.now) = search rules in
    let now : string_len c.loop-chunk.text ≡ length (string_bytes c.loop-chunk.text) = search rules in
    let so_far = ap length c.loop-chunk.invariant.1 ∙ length-append (string_bytes c.args.text.now) front in
    let kept = c.loop-chunk.invariant.2 in
    let room = c.requires.room in
    omega (arith, more, same, whole, was, now, so_far, kept, room)

pub overflow_add-start : goal.overflow_add-start
overflow_add-start c =
    let cs = c.args.chunks.now in
    let i = c.loop-chunk.chunk-index in
    let here = here_at cs i c.chunk-item.result c.loop-chunk-test.true c.chunk-item.is in
    let next = start_after_chunk cs i _ here in
    let within = start_within cs (i + 1) in
    let few = c.requires.few in
    let start = c.loop-chunk.invariant.0 in
    let len = c.len-start.ensures.value in
    omega (arith, next, within, few, start, len)

pub loop-chunk-preserved : goal.loop-chunk-preserved
loop-chunk-preserved c =
    let cs = c.args.chunks.now in
    let i = c.loop-chunk.chunk-index in
    let chunk = c.chunk-item.result in
    let here = here_at cs i chunk c.loop-chunk-test.true c.chunk-item.is in
    let next = start_after_chunk cs i chunk here in
    let start = c.loop-chunk.invariant.0 in
    let len = c.len-start.ensures.value in
    let old = string_bytes c.args.text.now in
    let front = visible_text (slice_range (joined (take i cs)) c.args.from c.args.to) in
    let kept = c.loop-chunk.invariant.2 in
    let grown = c.push_within.ensures.capacity in (
      omega (arith, next, start, len),
      c.push_within.ensures.bytes
          ∙ ap (λ bs. bs ++ visible_text (slice_range chunk (c.args.from - c.loop-chunk.start) (c.args.to - c.loop-chunk.start))) c.loop-chunk.invariant.1
          ∙ append_assoc old front (visible_text (slice_range chunk (c.args.from - c.loop-chunk.start) (c.args.to - c.loop-chunk.start)))
          ∙ ap (λ n. old ++ (front ++ visible_text (slice_range chunk (c.args.from - n) (c.args.to - n)))) start
          ∙ ap (λ bs. old ++ bs) (sym (range_more cs i c.args.from c.args.to chunk here c.requires.order)),
      omega (arith, kept, grown),
    )
