use Rattle.std.proofs.Common.{◌≡◌, ◌∙◌, [], Some, length, ap, subst, ⊎_elim}
use Rattle.std.specs.List.{slice_get}
use Rattle.std.proofs.lemmas.List.{length_push}
use Rattle.mark_anchors.proofs.Lists.{pushed_cases}
use Rattle.mark_anchors.proofs.comment_segments.push_empty.Goals as goal

pub returns-clause-sized : goal.returns-clause-sized
returns-clause-sized c = ap length c.in_ok-push.ensures.items ∙ length_push c.args.lists.now.items c.in_ok-list.list

pub returns-clause-empty : goal.returns-clause-empty
returns-clause-empty c =
    let lists = c.args.lists.now.items in
    λ old i l at.
    ⊎_elim
    (λ (was : slice_get lists i ≡ Some l). old i l was)
    (λ (new : c.in_ok-list.list ≡ l). subst (λ v. v.items ≡ []) new c.in_ok-list.ensures.items)
    (pushed_cases lists c.in_ok-list.list i l (subst (λ ls. slice_get ls i ≡ Some l) c.in_ok-push.ensures.items at))
