use Rattle.std.proofs.Common.{sym, refl, subst}
use Rattle.char_sequence.specs.Chunks.{AreCounts}
use Rattle.char_sequence.proofs.Counts.{counts_set}
use Rattle.char_sequence.proofs.chunk_counts.ChunkCounts.recount.Goals as goal

pub returns-clause-counts : goal.returns-clause-counts
returns-clause-counts c =
    λ chunks are.
    counts_set chunks _ _ c.args.position c.args.chunk.now c.len.result c.shown.result (subst (AreCounts chunks) (sym c.self.view_is) are) c.len.ensures.value c.shown.ensures.value refl refl
