use Rattle.std.proofs.Common.{◌≡◌, ◌∙◌, Some, true, sym, ap}
use Rattle.std.specs.List.{slice_get}
use Rattle.std.proofs.lemmas.Option.{same_Some}
use Rattle.mark_anchors.specs.CommentRuns.{has_place}
use Rattle.mark_anchors.specs.declared.comment_runs.CommentRun.{CommentRun}
use Rattle.mark_anchors.proofs.Lists.{read_at}
use Rattle.mark_anchors.proofs.Running.{run_taken}
use Rattle.mark_anchors.proofs.comment_list.next_at.Goals as goal

pub returns-then-has-clause-next : goal.returns-then-has-clause-next
returns-then-has-clause-next c =
    λ run at.
    let here : CommentRun = c.index-runs-index.result in
    let read : slice_get c.args.runs.now c.loop-index.index ≡ Some here = read_at c.args.runs.now c.loop-index.index here c.index-runs-index.is c.loop-index-test.true in
    let same : here ≡ run = same_Some here run (sym read ∙ at) in
    let has : has_place here c.args.place ≡ true = sym c.has.ensures ∙ c.if-has.true in
    c.loop-index.invariant ∙ run_taken c.args.runs.now c.loop-index.index run c.args.place at (ap (λ (z : CommentRun). has_place z c.args.place) (sym same) ∙ has)
