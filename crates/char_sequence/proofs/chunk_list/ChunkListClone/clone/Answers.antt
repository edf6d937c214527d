use Rattle.std.proofs.Common.{◌≡◌, ℕ, List, length, sym, ◌∙◌, subst, ap, rules}
use Rattle.std.proofs.lemmas.List.Elements.{same_from_all_zip}
use Rattle.char_sequence.specs.declared.sequence.Element.{Element}
use Rattle.char_sequence.specs.Chunks.{joined, AreCounts, IsKept}
use Rattle.char_sequence.specs.Named.{name_of}
use Rattle.char_sequence.specs.Visible.{visible_text}
use Rattle.char_sequence.proofs.Chunking.{kept_same}
use Rattle.char_sequence.proofs.Counts.{counts_same}
use Rattle.char_sequence.proofs.chunk_list.ChunkListClone.clone.Goals as goal

pub invariant_of-result : goal.invariant_of-result
invariant_of-result c =
    let chunks : c.in_ok-chunks.chunks.items ≡ c.self.inside.chunks.items = same_from_all_zip _ _ _ c.in_ok-chunks.ensures.cases.0 (λ x y h. search rules) in
    let names = c.in_ok-names.ensures.cases in
    let kept = kept_same _ _ _ _ _ (subst (λ (p : List (List Element) × List ℕ). IsKept p.0 p.1 (name_of c.self.inside.index) c.self.inside.count) (λ i. (sym chunks i, sym names i)) c.self.invariant.0) c.in_ok-index.ensures.cases in
    let counts = counts_same _ _ _ c.self.invariant.2 c.in_ok-counts.ensures.cases.0 c.in_ok-counts.ensures.cases.1 in
    (kept, c.self.invariant.1 ∙ ap (λ z. length (visible_text (joined z))) (sym chunks), subst (λ z. AreCounts z c.in_ok-counts.counts) (sym chunks) counts)

pub returns : goal.returns
returns c =
    let chunks : c.in_ok-chunks.chunks.items ≡ c.self.inside.chunks.items = same_from_all_zip _ _ _ c.in_ok-chunks.ensures.cases.0 (λ x y h. search rules) in
    record { cases = chunks ∙ ap (λ v. v.chunks) c.self.view_is }
