use Rattle.std.proofs.Common.{◌≡◌, ◌∙◌, ◌+◌, Some, length, ap, subst}
use Rattle.std.specs.List.{slice_get}
use Rattle.std.proofs.lemmas.Option.{none-some}
use Rattle.mark_anchors.proofs.comment_segments.empty_lists.Goals as goal

pub loop-cut-init : goal.loop-cut-init
loop-cut-init c =
    let none = c.in_ok-lists.ensures.items in
    record {
      sized = c.in_ok-push_empty.ensures.sized ∙ ap (λ ls. length ls + 1) none;
      empty =
          c.in_ok-push_empty.ensures.empty
          (λ i l at. absurd (none-some l (subst (λ ls. slice_get ls i ≡ Some l) none at)));
    }

pub loop-cut-preserved : goal.loop-cut-preserved
loop-cut-preserved c =
    record {
      sized = c.in_ok-push_empty-2.ensures.sized ∙ ap (λ n. n + 1) c.loop-cut.invariant.sized;
      empty = c.in_ok-push_empty-2.ensures.empty c.loop-cut.invariant.empty;
    }
