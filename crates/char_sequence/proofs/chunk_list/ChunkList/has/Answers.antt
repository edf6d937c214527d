use Rattle.std.proofs.Common.{◌≡◌, ap, ◌∙◌, subst}
use Rattle.char_sequence.specs.Index.{HasId}
use Rattle.char_sequence.specs.Chunks.{joined}
use Rattle.char_sequence.proofs.Chunking.{spot_place}
use Rattle.char_sequence.proofs.chunk_list.ChunkList.has.Goals as goal

pub returns-then-has_at-clause-yes : goal.returns-then-has_at-clause-yes
returns-then-has_at-clause-yes c =
    λ t.
    let same : c.deref.result.now ≡ c.args.self.now.chunks = c.deref.ensures.value ∙ ap (λ v. v.chunks) c.self.view_is in
    subst (λ z. HasId (joined z) c.args.id) same (_, spot_place _ _ _ _ (c.has_at.ensures.found t))
