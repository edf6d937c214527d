use Rattle.std.proofs.Common.{◌+◌, length, sym, ◌∙◌, arith}
use Rattle.char_sequence.proofs.Joined.{start_after_chunk, start_within, start_end}
use Rattle.char_sequence.proofs.Chunking.{here_at}
use Rattle.char_sequence.proofs.visible_cursor.chunk_at.Goals as goal

pub overflow_add-end : goal.overflow_add-end
overflow_add-end c =
    let cs = c.args.chunks.now in
    let here = here_at cs c.loop-position.position c.index-chunks-position.result c.loop-position-test.true c.index-chunks-position.is in
    let next = start_after_chunk cs c.loop-position.position c.index-chunks-position.result here in
    let whole = start_within cs (c.loop-position.position + 1) in
    let was = c.loop-position.invariant.0 in
    let len = c.len.ensures.value in
    let few = c.requires in
    omega (arith, next, whole, was, len, few)

pub returns-then-place-end : goal.returns-then-place-end
returns-then-place-end c =
    let cs = c.args.chunks.now in
    let here = here_at cs c.loop-position.position c.index-chunks-position.result c.loop-position-test.true c.index-chunks-position.is in
    let next = start_after_chunk cs c.loop-position.position c.index-chunks-position.result here in
    let inside = c.loop-position-test.true in
    let was = c.loop-position.invariant.0 in
    let len = c.len.ensures.value in
    let below = c.if-place-end.true in
    record {
      within = omega (arith, inside);
      start = was;
      reached = c.loop-position.invariant.1;
      ahead = λ less. omega (arith, next, was, len, below);
    }

pub loop-position-preserved : goal.loop-position-preserved
loop-position-preserved c =
    let cs = c.args.chunks.now in
    let here = here_at cs c.loop-position.position c.index-chunks-position.result c.loop-position-test.true c.index-chunks-position.is in
    let next = start_after_chunk cs c.loop-position.position c.index-chunks-position.result here in
    let was = c.loop-position.invariant.0 in
    let len = c.len.ensures.value in
    let past = c.if-place-end.false in
    (omega (arith, next, was, len), past)

pub returns : goal.returns
returns c =
    let cs = c.args.chunks.now in
    let end = c.loop-position-test.false in
    record {
      within = omega arith;
      start = c.loop-position.invariant.0 ∙ start_end cs c.loop-position.position end ∙ sym (start_end cs (length cs) (omega arith));
      reached = c.loop-position.invariant.1;
      ahead = λ less. absurd (omega (arith, less));
    }
