use Rattle.std.proofs.Common.{rules}
use Rattle.std.proofs.lemmas.List.Sorted.{IsNonDecreasingBy-from_sort, answers_always}
use Rattle.mark_anchors.specs.CommentLists.{end_of}
use Rattle.mark_anchors.proofs.comment_table.by_end.Goals as goal

pub returns : goal.returns
returns c = record {
  ascending = IsNonDecreasingBy-from_sort end_of c.sort_unstable_by_key.new.self.items (c.sort_unstable_by_key.ensures.sorted end_of (answers_always _ _ _ (λ f a r q k. search rules)));
  same = c.sort_unstable_by_key.ensures.permutation;
}
