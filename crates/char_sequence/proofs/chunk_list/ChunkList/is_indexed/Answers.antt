use Rattle.std.proofs.Common.{sym, ◌∙◌, subst}
use Rattle.char_sequence.specs.Index.{HasId}
use Rattle.char_sequence.specs.Chunks.{joined}
use Rattle.char_sequence.proofs.Chunking.{indexed_yes, indexed_no}
use Rattle.char_sequence.proofs.chunk_list.ChunkList.is_indexed.Goals as goal

pub returns-clause-yes : goal.returns-clause-yes
returns-clause-yes c =
    λ t. subst (λ v. HasId (joined v.chunks) c.args.id) c.self.view_is (indexed_yes _ _ _ c.self.invariant.0.indexed c.args.id _ (sym c.name_of.ensures) (sym c.is_some.ensures ∙ t))

pub returns-clause-no : goal.returns-clause-no
returns-clause-no c =
    λ f has. indexed_no _ _ _ c.self.invariant.0.indexed c.args.id _ (sym c.name_of.ensures) (sym c.is_some.ensures ∙ f) (subst (λ v. HasId (joined v.chunks) c.args.id) (sym c.self.view_is) has)
