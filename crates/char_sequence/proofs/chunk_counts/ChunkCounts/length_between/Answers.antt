use Rattle.std.proofs.Common.{sum, slice_range, ap, ◌∙◌, arith}
use Rattle.char_sequence.proofs.Counts.{sum_front, sum_range}
use Rattle.char_sequence.proofs.chunk_counts.ChunkCounts.length_between.Goals as goal

pub sum_of-requires : goal.sum_of-requires
sum_of-requires c =
    let xs = c.args.self.now.lengths in
    let same = ap (λ l. sum (slice_range l c.args.from c.args.to)) (c.deref.ensures.value ∙ ap (λ v. v.lengths) c.self.view_is) in
    let range = sum_range xs c.args.from c.args.to c.requires.order.0 in
    let most = sum_front xs c.args.to in
    let few = c.requires.few in
    omega (arith, same, range, most, few)
