use Rattle.std.proofs.Common.{◌≡◌, ◌+◌, ◌*◌, sum, take, ap, arith}
use Rattle.char_sequence.proofs.Counts.{sum_front, sum_range}
use Rattle.char_sequence.proofs.chunk_counts.block_of.Goals as goal

pub sum_of-requires : goal.sum_of-requires
sum_of-requires c =
    let xs = c.args.lengths.now in
    let at = c.loop-block.block * 64 in
    let range = sum_range xs at (at + 64) (omega arith) in
    let most = sum_front xs (at + 64) in
    let few = c.requires in
    omega (arith, range, most, few)

pub overflow_add-end : goal.overflow_add-end
overflow_add-end c =
    let xs = c.args.lengths.now in
    let at = c.loop-block.block * 64 in
    let range = sum_range xs at (at + 64) (omega arith) in
    let most = sum_front xs (at + 64) in
    let few = c.requires in
    let was = c.loop-block.invariant.0 in
    let block = c.sum_of.ensures in
    omega (arith, range, most, few, was, block)

pub loop-block-preserved : goal.loop-block-preserved
loop-block-preserved c =
    let xs = c.args.lengths.now in
    let at = c.loop-block.block * 64 in
    let range = sum_range xs at (at + 64) (omega arith) in
    let next : at + 64 ≡ (c.loop-block.block + 1) * 64 = omega arith in
    let far = ap (λ n. sum (take n xs)) next in
    let was = c.loop-block.invariant.0 in
    let block = c.sum_of.ensures in
    (omega (arith, range, far, was, block), c.if-place-end.false)
