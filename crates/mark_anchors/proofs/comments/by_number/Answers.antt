use Rattle.std.proofs.Common.{rules}
use Rattle.std.proofs.lemmas.List.Sorted.{IsNonDecreasingBy-from_sort, answers_always}
use Rattle.mark_anchors.specs.Commented.{number_of}
use Rattle.mark_anchors.proofs.comments.by_number.Goals as goal

pub returns-clause-rising : goal.returns-clause-rising
returns-clause-rising c =
    IsNonDecreasingBy-from_sort number_of c.sort_unstable_by_key.new.self.items
    (c.sort_unstable_by_key.ensures.sorted number_of (answers_always _ _ _ (λ f a r q k. search rules)))
