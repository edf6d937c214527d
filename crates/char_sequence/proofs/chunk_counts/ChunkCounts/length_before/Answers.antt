use Rattle.std.proofs.Common.{◌≡◌, sum, take, ap, ◌∙◌, arith}
use Rattle.char_sequence.proofs.Counts.{sum_front, lengths_few, lengths_before}
use Rattle.char_sequence.proofs.chunk_counts.ChunkCounts.length_before.Goals as goal

pub sum_of-requires : goal.sum_of-requires
sum_of-requires c =
    let counts = c.args.self.now in
    let front : c.split_at.result.0.now ≡ take c.args.position counts.lengths = c.split_at.ensures.front ∙ ap (take c.args.position) (c.deref.ensures.value ∙ ap (λ v. v.lengths) c.self.view_is) in
    let same = ap sum front in
    let most = sum_front counts.lengths c.args.position in
    let few = lengths_few c.requires.0 counts c.requires.1 in
    let limit = c.requires.3 in
    omega (arith, same, most, few, limit)

pub returns : goal.returns
returns c =
    λ chunks are.
    let counts = c.args.self.now in
    let front : c.split_at.result.0.now ≡ take c.args.position counts.lengths = c.split_at.ensures.front ∙ ap (take c.args.position) (c.deref.ensures.value ∙ ap (λ v. v.lengths) c.self.view_is) in
    c.sum_of.ensures ∙ ap sum front ∙ lengths_before chunks counts c.args.position are
