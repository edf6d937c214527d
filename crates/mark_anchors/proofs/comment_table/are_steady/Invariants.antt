use Rattle.std.proofs.Common.{ℕ, ◌<◌, get_or}
use Rattle.mark_anchors.specs.CommentLists.{IsSteady}
use Rattle.mark_anchors.specs.declared.comment_runs.CommentRun.{CommentRun}
use Rattle.mark_anchors.proofs.comment_table.are_steady.Given as goal

abbrev pub invariant-loop-run : goal.invariant-loop-run
invariant-loop-run l = (k : ℕ) (d : CommentRun) → k < l.run-index → IsSteady l.runs (get_or l.changed k d).number l.first l.second
