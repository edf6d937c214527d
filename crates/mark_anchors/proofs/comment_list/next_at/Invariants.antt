use Rattle.std.proofs.Common.{◌≡◌, drop}
use Rattle.mark_anchors.specs.CommentRuns.{numbers_at}
use Rattle.mark_anchors.proofs.comment_list.next_at.Given as goal

abbrev pub invariant-loop-index : goal.invariant-loop-index
invariant-loop-index l = numbers_at (drop l.from l.runs) l.place ≡ numbers_at (drop l.index l.runs) l.place
