use Rattle.std.proofs.Common.{length, List, sym, subst, arith}
use Rattle.mark_anchors.specs.Commented.{placed_of}
use Rattle.mark_anchors.specs.CommentRuns.{AreAdded}
use Rattle.mark_anchors.specs.declared.placed.PlacedMark.{PlacedMark}
use Rattle.mark_anchors.proofs.Adding.{added_permuted}
use Rattle.mark_anchors.proofs.Alike.{ok_more}
use Rattle.mark_anchors.proofs.Grouping.{alone_in_range}
use Rattle.mark_anchors.proofs.comment_runs.push_comment.Goals as goal

pub push_run_of_one-requires-clause-placed : goal.push_run_of_one-requires-clause-placed
push_run_of_one-requires-clause-placed c = c.requires.placed c.only-item.result (0, omega arith, sym c.only-item.is)

pub push_runs-requires-clause-placed : goal.push_runs-requires-clause-placed
push_runs-requires-clause-placed c =
    alone_in_range c.args.marks.now c.in_ok-comment.comment.marks (length c.args.operations.now) c.in_ok-comment.ensures.marks c.requires.placed

pub returns : goal.returns
returns c =
    let marks : List PlacedMark = c.in_ok-comment.comment.marks in
    let old = c.args.runs.now.items in
    let new = c.push_runs.new.runs.items in
    ok_more (λ _. AreAdded c.args.operations.now c.in_ok-comment.comment.number marks old new)
    (λ _. AreAdded c.args.operations.now c.args.number (placed_of c.args.marks.now) old new) c.push_runs.result
    (λ _ are.
    added_permuted c.args.operations.now c.args.number marks (placed_of c.args.marks.now) old new c.in_ok-comment.ensures.marks
    (subst (λ n. AreAdded c.args.operations.now n marks old new) c.in_ok-comment.ensures.number are))
    c.push_runs.ensures
