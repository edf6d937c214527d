use Rattle.std.proofs.Common.{◌+◌, ◌-◌, ◌<◌, ◌≤◌, length, sym, refl, ◌∙◌, arith, subst}
use Rattle.std.proofs.lemmas.Option.{same_Some, slice_get_within}
use Rattle.char_sequence.specs.Chunks.{start_of}
use Rattle.char_sequence.proofs.Walking.{IsSoFar, so_far_none, so_far_chunk, past_here, past_all}
use Rattle.char_sequence.proofs.Chunking.{here_at}
use Rattle.char_sequence.proofs.chunk_list.past_greater.Goals as goal

pub loop-position-init : goal.loop-position-init
loop-position-init c =
    λ start spot.
    (so_far_none _ _ _ _ _ spot, λ d here. subst (λ z. c.args.from.at ≤ length z) (same_Some spot.chunk d (sym spot.here ∙ here)) spot.within, λ past. absurd (let low = slice_get_within c.args.chunks.now c.args.from.position spot.chunk spot.here in omega (arith, low, past)))

pub returns-in-Some : goal.returns-in-Some
returns-in-Some c =
    λ start spot.
    let here = here_at c.args.chunks.now c.loop-position.position c.index-chunks-position.result c.loop-position-test.true c.index-chunks-position.is in
    past_here _ _ _ _ start _ _ here c.in-Some.ensures (c.loop-position.invariant start spot).0

pub loop-position-preserved : goal.loop-position-preserved
loop-position-preserved c =
    λ start spot.
    let here = here_at c.args.chunks.now c.loop-position.position c.index-chunks-position.result c.loop-position-test.true c.index-chunks-position.is in
    let was = c.loop-position.invariant start spot in
    (so_far_chunk _ _ _ _ start _ here (was.1 _ here) c.in_default.ensures was.0, λ d there. omega arith, λ past. refl)

pub returns : goal.returns
returns c =
    λ start spot.
    let low = slice_get_within c.args.chunks.now c.args.from.position spot.chunk spot.here in
    let last : length c.args.chunks.now - 1 < length c.args.chunks.now = omega (arith, low) in
    let here = here_at c.args.chunks.now (length c.args.chunks.now - 1) c.index-chunks-position-2.result last c.index-chunks-position-2.is in
    let end = c.loop-position-test.false in
    let was = c.loop-position.invariant start spot in
    rw c.len.ensures.value (past_all _ _ c.loop-position.position (length c.args.chunks.now - 1) start _ end (omega (arith, low)) here (subst (λ n. IsSoFar c.args.chunks.now c.args.id start (start_of c.args.chunks.now c.loop-position.position + n)) (was.2 end) was.0))
