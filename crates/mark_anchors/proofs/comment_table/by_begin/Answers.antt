use Rattle.std.proofs.Common.{rules}
use Rattle.std.proofs.lemmas.List.Sorted.{IsNonDecreasingBy-from_sort, answers_always}
use Rattle.mark_anchors.specs.CommentLists.{begin_of}
use Rattle.mark_anchors.proofs.comment_table.by_begin.Goals as goal

pub returns : goal.returns
returns c = record {
  ascending = IsNonDecreasingBy-from_sort begin_of c.sort_unstable_by_key.new.self.items (c.sort_unstable_by_key.ensures.sorted begin_of (answers_always _ _ _ (λ f a r q k. search rules)));
  same = c.sort_unstable_by_key.ensures.permutation;
}
