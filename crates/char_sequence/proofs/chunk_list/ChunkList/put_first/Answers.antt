use Rattle.std.proofs.Common.{length, ◌++◌, ◌∷◌, [], ap, ◌∙◌, sym, subst, append-nil}
use Rattle.char_sequence.specs.Chunks.{joined, AreCounts}
use Rattle.char_sequence.specs.Named.{IsAboveAll}
use Rattle.char_sequence.specs.Visible.{visible_text}
use Rattle.char_sequence.proofs.Chunking.{kept_first, kept_same, above_indexed}
use Rattle.char_sequence.proofs.chunk_list.ChunkList.put_first.Goals as goal

pub enter-requires-clause-above : goal.enter-requires-clause-above
enter-requires-clause-above c =
    above_indexed _ _ _ c.self.invariant.0.indexed c.args.element.id (subst (λ v. IsAboveAll (joined v.chunks) c.args.element.id) (sym c.self.view_is) c.requires.above)

pub invariant_of-self : goal.invariant_of-self
invariant_of-self c = (kept_same _ _ _ _ _ c.self.invariant.0 c.in_err-enter.ensures.unchanged, c.self.invariant.1, c.self.invariant.2)

pub invariant_of-self-2 : goal.invariant_of-self-2
invariant_of-self-2 c =
    let none = ap (λ v. v.chunks) c.self.view_is ∙ c.requires.none in
    let first = ap joined (c.push_reserved.ensures.items ∙ ap (λ z. z ++ c.one-chunk.result ∷ []) none) ∙ append-nil c.one-chunk.result in (
      kept_first _ _ _ _ _ _ _ _ c.args.element c.self.invariant.0 none c.push_first.ensures c.push_reserved.ensures.items c.one-chunk.ensures c.in_ok-enter.ensures.named c.in_ok-enter.ensures.kept,
      ap length (c.text.ensures.value ∙ ap visible_text (sym first)),
      subst (λ z. AreCounts z c.push.new.self) (sym c.push_reserved.ensures.items) (c.push.ensures _ c.self.invariant.2),
    )
