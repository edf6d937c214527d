use Rattle.std.proofs.Common.{rules}
use Rattle.std.proofs.lemmas.List.Sorted.{answers_always}
use Rattle.mark_anchors.specs.declared.placed.PlacedMark.{PlacedMark}
use Rattle.mark_anchors.proofs.Painting.{by_id_from_sort}
use Rattle.mark_anchors.proofs.key_marks.by_id.Goals as goal

pub returns-clause-rising : goal.returns-clause-rising
returns-clause-rising c = by_id_from_sort _ (c.sort_unstable_by_key.ensures.sorted (λ (p : PlacedMark). p.id) (answers_always _ _ _ (λ f a r q k. search rules)))
