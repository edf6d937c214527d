use Rattle.std.proofs.Common.{◌≡◌, ◌≤◌, ℕ, List, [], drop, length, ap, arith}
use Rattle.std.proofs.lemmas.List.{drop_all}
use Rattle.mark_anchors.specs.CommentRuns.{numbers_at}
use Rattle.mark_anchors.specs.declared.comment_runs.CommentRun.{CommentRun}
use Rattle.mark_anchors.proofs.Matching.{ends}
use Rattle.mark_anchors.proofs.comment_list.are_alike.Goals as goal

pub returns : goal.returns
returns c =
    let firsts : List CommentRun = c.args.first.now in
    let seconds : List CommentRun = c.args.second.now in
    let i : ℕ = c.loop-index.index in
    let over : length firsts ≤ i = omega (arith, c.loop-index-test.false) in
    let none : numbers_at (drop i firsts) c.args.first_place ≡ [] = ap (λ (l : List CommentRun). numbers_at l c.args.first_place) (drop_all i firsts over) in
    let left = ends (numbers_at (drop i firsts) c.args.first_place) (numbers_at (drop c.loop-index.at seconds) c.args.second_place) (numbers_at firsts c.args.first_place ≡ numbers_at seconds c.args.second_place) none c.loop-index.invariant.1 in
    (λ yes. left.0 (c.are_passed.ensures.0 yes), λ whole. c.are_passed.ensures.1 (left.1 whole))
