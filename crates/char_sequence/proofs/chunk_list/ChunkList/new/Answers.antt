use Rattle.std.proofs.Common.{length, ap, sym, ◌∙◌, rules, subst}
use Rattle.char_sequence.specs.Chunks.{joined, AreCounts, IsKept}
use Rattle.char_sequence.specs.Named.{name_of}
use Rattle.char_sequence.specs.Visible.{visible_text}
use Rattle.char_sequence.proofs.VisibleText.{visible_none}
use Rattle.char_sequence.proofs.chunk_list.ChunkList.new.Goals as goal

pub invariant_of-result : goal.invariant_of-result
invariant_of-result c =
    let kept : IsKept c.new.result.items c.new-2.result.names (name_of c.new-4.result) 0 = search rules in
    (kept, sym (ap length (ap (λ z. visible_text (joined z)) c.new.ensures.items ∙ visible_none)), subst (λ z. AreCounts z c.new-3.result) (sym c.new.ensures.items) c.new-3.ensures)
