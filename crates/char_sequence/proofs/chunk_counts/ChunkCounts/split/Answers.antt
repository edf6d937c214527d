use Rattle.std.proofs.Common.{◌≡◌, ◌+◌, set, arith, rules}
use Rattle.std.proofs.Math.ListN.{length-set}
use Rattle.std.specs.List.{insert}
use Rattle.char_sequence.proofs.Counts.{counts_insert, as_many_lengths}
use Rattle.char_sequence.proofs.chunk_counts.ChunkCounts.split.Goals as goal

pub returns : goal.returns
returns c =
    λ chunks are.
    let left = c.args.left.now in
    let there = c.requires.there in
    let low = there.2 in
    let many = as_many_lengths there.0 c.args.self.now there.1 in
    let as_many = as_many_lengths chunks c.args.self.now are in
    let size = length-set chunks c.args.position left in
    let lengths : c.insert.new.self.items ≡ insert c.recount.new.self.lengths (c.args.position + 1) c.len.result = search rules in
    let shown : c.insert-2.new.self.items ≡ insert c.recount.new.self.shown (c.args.position + 1) c.shown.result = search rules in
    counts_insert (set chunks c.args.position left) c.recount.new.self _ (c.args.position + 1) c.args.right.now c.len.result c.shown.result (c.recount.ensures.counts chunks are) (omega (arith, low, many, as_many, size)) c.len.ensures.value c.shown.ensures.value lengths shown
