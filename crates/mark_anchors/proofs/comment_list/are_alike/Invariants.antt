use Rattle.std.proofs.Common.{◌≡◌, ◌↔◌, ◌≤◌, drop, length}
use Rattle.mark_anchors.specs.CommentRuns.{numbers_at}
use Rattle.mark_anchors.proofs.comment_list.are_alike.Given as goal

abbrev pub invariant-loop-index : goal.invariant-loop-index
invariant-loop-index l =
    (l.at ≤ length l.fn.second)
    × ((numbers_at (drop l.index l.fn.first) l.fn.first_place ≡ numbers_at (drop l.at l.fn.second) l.fn.second_place)
    ↔ (numbers_at l.fn.first l.fn.first_place ≡ numbers_at l.fn.second l.fn.second_place))
