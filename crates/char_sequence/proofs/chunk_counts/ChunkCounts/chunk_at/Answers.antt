use Rattle.std.proofs.Common.{◌+◌, ◌<◌, length, sum, take, ap, ◌∙◌, subst, arith}
use Rattle.char_sequence.specs.Chunks.{IsSumBefore}
use Rattle.char_sequence.proofs.Counts.{lengths_few, chunk_at}
use Rattle.char_sequence.proofs.chunk_counts.ChunkCounts.chunk_at.Goals as goal

pub block_of-first-requires : goal.block_of-first-requires
block_of-first-requires c =
    let same = ap sum (c.deref.ensures.value ∙ ap (λ v. v.lengths) c.self.view_is) in
    let few = lengths_few c.requires.0 c.args.self.now c.requires.1 in
    let limit = c.requires.2 in
    omega (arith, same, few, limit)

pub chunk_from-requires-clause-few : goal.chunk_from-requires-clause-few
chunk_from-requires-clause-few c =
    let same = ap sum (c.deref-2.ensures.value ∙ ap (λ v. v.lengths) c.self.view_is) in
    let few = lengths_few c.requires.0 c.args.self.now c.requires.1 in
    let limit = c.requires.2 in
    omega (arith, same, few, limit)

pub returns : goal.returns
returns c =
    λ chunks are.
    let at = c.chunk_from.result in
    let same = c.deref-2.ensures.value ∙ ap (λ v. v.lengths) c.self.view_is in
    let before = subst (λ l. IsSumBefore l c.args.place at) same c.chunk_from.ensures.reached in
    let ahead = subst (λ l. at.position < length l → c.args.place < sum (take (at.position + 1) l)) same c.chunk_from.ensures.ahead in
    chunk_at chunks c.args.self.now c.args.place at are before ahead
